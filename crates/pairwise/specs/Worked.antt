-- What is promised of a Spent run that was worked over. r is y - N u of the shares, v and s the rows of the boats that give and take. Definitions only.
use Rattle.std.specs.Prelude.{◌≡◌, List, ℕ, suc, ◌+◌, ◌*◌, ◌≤◌, ◌<◌, ℤ, pos, length, get_or, ◌≤ℤ◌, ◌<ℤ◌}
use Rattle.frank_wolfe.specs.Vectors.{subtract, weighted, weighted_norm, sum}
use Rattle.method.specs.declared.Test.TheVariants.{Sharper}
use Rattle.method.specs.declared.Answer.{Answer}
use Rattle.method.specs.Problem.{Problem, Terms, call_problem}
use Rattle.method.specs.Calls.{call_refusal}
use Rattle.method.specs.Iterates.{row, mixture_distance, diameter, support}
use Rattle.method.specs.Answers.{verdict_number, run_iterate, run_answer}
use Rattle.method.specs.Bounds.{AnswerBounds, StepBound}
use Rattle.pairwise.specs.Moves.{shares_residual, shares_scores, moves, moves_made, worked_shares, worked_answer}

-- of the boats that hold shares, boat k has a score that none exceeds, and the lowest number of those that have it
pub record Greatest (shares : List ℕ) (scores : List ℤ) (k : ℕ) : Type 0 where
  pub in_list : k < length shares
  pub holds : 1 ≤ get_or shares k 0
  pub greatest : (i : ℕ) → 1 ≤ get_or shares i 0 → get_or scores i (pos 0) ≤ℤ get_or scores k (pos 0)
  pub first : (i : ℕ) → i < k → 1 ≤ get_or shares i 0 → get_or scores i (pos 0) <ℤ get_or scores k (pos 0)

-- a score that is above none
pub record Least (shares : List ℕ) (scores : List ℤ) (k : ℕ) : Type 0 where
  pub in_list : k < length shares
  pub holds : 1 ≤ get_or shares k 0
  pub least : (i : ℕ) → 1 ≤ get_or shares i 0 → get_or scores k (pos 0) ≤ℤ get_or scores i (pos 0)
  pub first : (i : ℕ) → i < k → 1 ≤ get_or shares i 0 → get_or scores k (pos 0) <ℤ get_or scores i (pos 0)

-- the move that is to be made from some shares
pub record Choice (p : Problem) (shares : List ℕ) : Type 0 where
  -- from the boat of greatest score to the boat of least
  pub from : ℕ
  pub to : ℕ
  pub greatest : Greatest shares (shares_scores p shares) from
  pub least : Least shares (shares_scores p shares) to
  -- <r, v - s>
  pub slope : ℕ
  pub slope_is : weighted p.factors (shares_residual p shares) (subtract (row p.vertices from) (row p.vertices to)) ≡ pos slope
  -- |v - s|²
  pub apart : ℕ
  pub apart_is : weighted_norm p.factors (subtract (row p.vertices from) (row p.vertices to)) ≡ apart
  -- m shares, at most what the first boat holds
  pub amount : ℕ
  pub held : amount ≤ get_or shares from 0
  -- none where the scores are equal
  pub level : slope ≡ 0 → amount ≡ 0
  -- the whole number nearest to <r, v - s> / |v - s|², halves down: (2 m - 1) |v - s|² < 2 <r, v - s>
  pub not_above : 1 ≤ amount → 2 * (amount * apart) < 2 * slope + apart
  -- and 2 <r, v - s> ≤ (2 m + 1) |v - s|², unless m is all that is held
  pub not_below : amount < get_or shares from 0 → 2 * slope ≤ 2 * (amount * apart) + apart

-- there is only one: whatever keeps this is the move that specs/Moves.antt defines
unfoldable pub OneChoice : Type 0
OneChoice = (p : Problem) (shares : List ℕ) (x y : Choice p shares) → (x.from ≡ y.from) × (x.to ≡ y.to) × (x.amount ≡ y.amount)

-- one move that is made, from shares `old` to shares `new`
pub record MoveRight (p : Problem) (old new : List ℕ) : Type 0 where
  pub choice : Choice p old
  pub some : 1 ≤ choice.amount
  -- the first boat has so many shares less, the second so many more, the others what they had
  pub gives : get_or new choice.from 0 + choice.amount ≡ get_or old choice.from 0
  pub takes : get_or new choice.to 0 ≡ get_or old choice.to 0 + choice.amount
  pub others : (i : ℕ) → (i ≡ choice.from → ⊥) → (i ≡ choice.to → ⊥) → get_or new i 0 ≡ get_or old i 0
  pub count : length new ≡ length old
  -- the total stays, and no boat joins
  pub total : sum new ≡ sum old
  pub none_joins : (i : ℕ) → get_or old i 0 ≡ 0 → get_or new i 0 ≡ 0
  -- E falls
  pub lowers : mixture_distance p new < mixture_distance p old

-- of the answer and the shares of a Spent run worked over with so many moves allowed
pub record WorkedRight (p : Problem) (allowed : ℕ) (a : Answer) (shares : List ℕ) : Type 0 where
  -- ---- The moves
  -- so many are made; the shares after k of them
  pub made : ℕ
  pub after : (k : ℕ) → List ℕ
  pub starts : after 0 ≡ (run_iterate p).shares
  pub every_move : (k : ℕ) → k < made → MoveRight p (after k) (after (suc k))
  pub ends : after made ≡ shares
  -- at most those allowed; and where fewer, the next would move no share
  pub most_moves : made ≤ allowed
  pub next : Choice p shares
  pub stopped : made < allowed → next.amount ≡ 0
  -- ---- The shares
  -- their total is the run's
  pub total : sum shares ≡ sum (run_iterate p).shares
  -- what held 0 holds 0
  pub none_joins : (i : ℕ) → get_or (run_iterate p).shares i 0 ≡ 0 → get_or shares i 0 ≡ 0
  pub few_boats : support shares ≤ support (run_iterate p).shares
  -- ---- The answer
  -- the steps and W are the run's
  pub same_steps : a.steps ≡ (run_answer p).steps
  pub same_weight : a.weight ≡ (run_answer p).weight
  -- E is at most the run's, and below it where a move is made
  pub not_farther : a.distance ≤ (run_answer p).distance
  pub nearer : 1 ≤ made → a.distance < (run_answer p).distance
  -- E, G and the verdict are those of the shares: how near any mixture can come, and what each verdict means
  pub answer : AnswerBounds Sharper p a shares
  -- every squared distance is at least E / W² less the bound of the steps
  pub step_bound : (qs : List ℕ) → length qs ≡ length p.vertices → 1 ≤ sum qs →
      StepBound p.schedule a.steps (diameter p) a.distance (a.weight * a.weight) (sum qs) (mixture_distance p qs)
  -- Spent: every mixture's squared distance is at least the tolerance, τ / 1, less that bound
  pub spent : verdict_number a.verdict ≡ 3 → (qs : List ℕ) → length qs ≡ length p.vertices → 1 ≤ sum qs →
      StepBound p.schedule a.steps (diameter p) p.tolerance 1 (sum qs) (mixture_distance p qs)

-- ---- The statements

-- where fewer moves are made than are allowed, more allowed change nothing
unfoldable pub Enough : Type 0
Enough =
    (p : Problem) (n k : ℕ) (shares : List ℕ) → moves_made n p shares < n → n ≤ k →
    (moves k p shares ≡ moves n p shares) × (moves_made k p shares ≡ moves_made n p shares)

-- of a call that is not refused, with a released set or without
unfoldable pub WorkingOver : Type 0
WorkingOver =
    (m : Terms) (b s : List ℕ) (allowed : ℕ) → call_refusal m b s ≡ 0 → verdict_number (run_answer (call_problem m b s)).verdict ≡ 3 →
    WorkedRight (call_problem m b s) allowed (worked_answer (call_problem m b s) allowed) (worked_shares (call_problem m b s) allowed)
