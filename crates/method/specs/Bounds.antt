-- What is promised of an answer and its shares: steps and numbers, how near any mixture can come, and what each verdict means.
-- E, G, W, t are the answer's. A mixture is any list of shares, one a vertex, of a total N above 0; Q is N² times its squared distance. Definitions only.
use Rattle.std.specs.Prelude.{◌≡◌, true, false, ◌↔◌, List, ℕ, ◌+◌, ◌*◌, ◌≤◌, ◌<◌, length, pos, ◌-ℤ◌, ◌≤ℤ◌}
use Rattle.frank_wolfe.specs.Vectors.{sum, combination}
use Rattle.method.specs.declared.Test.{Test}
use Rattle.method.specs.declared.Test.TheVariants.{Former, Sharper}
use Rattle.method.specs.declared.Answer.{Answer}
use Rattle.method.specs.Problem.{Schedule, fixed, lent, Problem, weight}
use Rattle.method.specs.Iterates.{Iterate, iterate, signed_gap, mixture_distance, diameter, support}
use Rattle.method.specs.Answers.{verdict_number, verdict_carries, is_beyond, stops, answer_at}
use Rattle.files.specs.Limits.{sum_limit}

-- some shares with their sum of share times vertex
abbrev pub mixture_iterate : Problem → (shares : List ℕ) → Iterate
mixture_iterate p qs = record { shares = qs; point = combination p.columns qs p.vertices }

-- the answer of shares qs, one a vertex, after t steps: E and G are theirs, the verdict is judged in its order at the tolerance, by the test
abbrev pub answer_of : Test → Problem → (shares : List ℕ) → (t : ℕ) → Answer
answer_of test p qs t = answer_at test p t (mixture_iterate p qs)

-- of an answer and its shares, a run's or an accepted card's, judged by a test
pub record AnswerBounds (test : Test) (p : Problem) (a : Answer) (shares : List ℕ) : Type 0 where
  -- ---- Shares and steps
  -- one share a vertex
  pub share_count : length shares ≡ length p.vertices
  -- the shares total what t steps give: t (t + 1) / 2 for the fixed shares, the first t entries of a table
  pub total : sum shares ≡ weight p.schedule a.steps
  -- and W is that total
  pub weight : a.weight ≡ weight p.schedule a.steps
  -- on no more vertices than steps
  pub few_boats : support shares ≤ a.steps
  -- at least one step
  pub some_step : 1 ≤ a.steps
  -- no more than the problem allows
  pub most_steps : a.steps ≤ p.steps
  -- the verdict ends a run of the problem's steps here
  pub stops_here : stops p.steps a.steps a.verdict ≡ true
  -- ---- The numbers of these shares
  -- E is that of these very shares
  pub own_distance : a.distance ≡ mixture_distance p shares
  -- G is their gap, which as an integer is not below 0
  pub own_gap : signed_gap p a.steps (mixture_iterate p shares) ≡ pos a.gap
  -- ---- How near any mixture can come
  -- every squared distance is at least this one less twice the gap
  pub gap_bound : (qs : List ℕ) → length qs ≡ length p.vertices → 1 ≤ sum qs →
      a.distance * (sum qs * sum qs) ≤ mixture_distance p qs * (a.weight * a.weight) + 2 * a.gap * (sum qs * sum qs)
  -- ---- The verdicts, by number: 1 Within, 2 Beyond, 3 Spent
  -- Within exactly where the squared distance is at most the tolerance
  pub within : (verdict_number a.verdict ≡ 1) ↔ (a.distance ≤ p.tolerance * (a.weight * a.weight))
  -- Beyond: every mixture's squared distance is above the tolerance
  pub beyond : verdict_number a.verdict ≡ 2 → (qs : List ℕ) → length qs ≡ length p.vertices → 1 ≤ sum qs →
      p.tolerance * (sum qs * sum qs) < mixture_distance p qs
  -- it is said exactly where the squared distance is above the tolerance and the test holds
  pub beyond_tested :
      (verdict_number a.verdict ≡ 2)
      ↔ ((p.tolerance * (a.weight * a.weight) < a.distance) × (is_beyond test (p.tolerance * (a.weight * a.weight)) a.distance a.gap ≡ true))
  -- by either test wherever E - 2 G is above tolerance × W²
  pub beyond_former : p.tolerance * (a.weight * a.weight) + 2 * a.gap < a.distance → verdict_number a.verdict ≡ 2
  -- and carries E - 2 G, which may be below zero
  pub beyond_floor : verdict_number a.verdict ≡ 2 → verdict_carries a.verdict ≡ pos a.distance -ℤ pos (2 * a.gap)
  -- Spent is said where neither of the others is: the test does not hold
  pub spent_undecided : verdict_number a.verdict ≡ 3 → is_beyond test (p.tolerance * (a.weight * a.weight)) a.distance a.gap ≡ false
  -- and E is above tolerance × W²
  pub spent_above : verdict_number a.verdict ≡ 3 → p.tolerance * (a.weight * a.weight) < a.distance
  -- after the problem's last step only
  pub spent_last : verdict_number a.verdict ≡ 3 → a.steps ≡ p.steps
  -- and carries what E is above tolerance × W²
  pub spent_shortfall : verdict_number a.verdict ≡ 3 → verdict_carries a.verdict ≡ pos a.distance -ℤ pos (p.tolerance * (a.weight * a.weight))
  -- ---- Bits
  -- E is below 2^62
  pub distance_fits : a.distance < sum_limit
  -- so is G
  pub gap_fits : a.gap < sum_limit
  -- and tolerance × W²
  pub limit_fits : p.tolerance * (a.weight * a.weight) < sum_limit

-- a / b - Q / N² is at most the bound of t steps, multiplied out; d is D². With the fixed shares the bound is 4 D² / (t + 2), with those
-- of a table 2 D² t / W
unfoldable pub StepBound : Schedule → (t d a b n q : ℕ) → Type 0
StepBound fixed t d a b n q = a * (n * n) * (t + 2) ≤ q * b * (t + 2) + 4 * d * b * (n * n)
StepBound (lent table) t d a b n q = a * (n * n) * weight (lent table) t ≤ q * b * weight (lent table) t + 2 * d * t * b * (n * n)

-- of a run's answer and shares, in addition
pub record RunBounds (p : Problem) (a : Answer) (shares : List ℕ) : Type 0 where
  pub answer : AnswerBounds Sharper p a shares
  -- no step before it stopped the run
  pub first : (t : ℕ) → 1 ≤ t → t < a.steps →
      stops p.steps t (answer_at Sharper p t (iterate p t)).verdict ≡ false
  -- nor would one by the former test: no run by that test is shorter
  pub first_former : (t : ℕ) → 1 ≤ t → t < a.steps →
      stops p.steps t (answer_at Former p t (iterate p t)).verdict ≡ false
  -- no gap on the way is below 0
  pub every_gap : (t : ℕ) → 1 ≤ t → pos 0 ≤ℤ signed_gap p t (iterate p t)
  -- every squared distance is at least the run's, E / W², less the bound of its steps
  pub step_bound : (qs : List ℕ) → length qs ≡ length p.vertices → 1 ≤ sum qs →
      StepBound p.schedule a.steps (diameter p) a.distance (a.weight * a.weight) (sum qs) (mixture_distance p qs)
  -- Spent: every mixture's squared distance is at least the tolerance, τ / 1, less that bound
  pub spent : verdict_number a.verdict ≡ 3 → (qs : List ℕ) → length qs ≡ length p.vertices → 1 ≤ sum qs →
      StepBound p.schedule a.steps (diameter p) p.tolerance 1 (sum qs) (mixture_distance p qs)
