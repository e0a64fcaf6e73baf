-- What is promised of an answer under a released set, by the numbers of the book: no reader has to renumber. p is the problem of all boats of
-- the book, and zs any mixture of them that rests on released boats; N is its total, Q its N² times squared distance. Definitions only.
use Rattle.std.specs.Prelude.{◌≡◌, true, false, List, ℕ, ◌+◌, ◌*◌, ◌≤◌, ◌<◌, length}
use Rattle.frank_wolfe.specs.Vectors.{sum}
use Rattle.files.specs.Book.{boats, columns, rows}
use Rattle.method.specs.declared.Answer.{Answer}
use Rattle.method.specs.ReleasedBoats.{Usable, may_use, gather, scatter, RestsOn}
use Rattle.method.specs.Problem.{Problem, weight, on_released}
use Rattle.method.specs.Iterates.{row, mixture_distance, diameter, support}
use Rattle.method.specs.Answers.{verdict_number}
use Rattle.method.specs.Bounds.{StepBound}

-- such a mixture is one of the released boats: of the same total, on as many boats, at the same distance
pub record GatheredSame (u : Usable) (p : Problem) (zs : List ℕ) : Type 0 where
  pub count : length (gather u zs) ≡ length (on_released u p).vertices
  pub total : sum (gather u zs) ≡ sum zs
  pub support : support (gather u zs) ≡ support zs
  pub distance : mixture_distance (on_released u p) (gather u zs) ≡ mixture_distance p zs

-- of an answer and its slots, one a boat of the book, a run's or an accepted card's
pub record ReleasedAnswer (u : Usable) (p : Problem) (a : Answer) (slots : List ℕ) : Type 0 where
  pub slot_count : length slots ≡ length p.vertices
  -- the slots of other boats are 0
  pub rests : RestsOn u slots
  -- the mixtures zs are those of the released boats
  pub mixtures : (zs : List ℕ) → length zs ≡ length p.vertices → RestsOn u zs → GatheredSame u p zs
  -- and every mixture of the released boats is one of them
  pub reached : (qs : List ℕ) → length qs ≡ length (on_released u p).vertices →
      (length (scatter u (length p.vertices) qs) ≡ length p.vertices) × (RestsOn u (scatter u (length p.vertices) qs))
      × (gather u (scatter u (length p.vertices) qs) ≡ qs)
  pub total : sum slots ≡ weight p.schedule a.steps
  pub few_boats : support slots ≤ a.steps
  pub own_distance : a.distance ≡ mixture_distance p slots
  -- no squared distance is below the answer's less twice the gap
  pub gap_bound : (zs : List ℕ) → length zs ≡ length p.vertices → RestsOn u zs → 1 ≤ sum zs →
      a.distance * (sum zs * sum zs) ≤ mixture_distance p zs * (a.weight * a.weight) + 2 * a.gap * (sum zs * sum zs)
  -- Beyond: every squared distance is above the tolerance
  pub beyond : verdict_number a.verdict ≡ 2 → (zs : List ℕ) → length zs ≡ length p.vertices → RestsOn u zs → 1 ≤ sum zs →
      p.tolerance * (sum zs * sum zs) < mixture_distance p zs

-- of a run's answer and slots, in addition; D² is that of the released boats
pub record ReleasedRun (u : Usable) (p : Problem) (a : Answer) (slots : List ℕ) : Type 0 where
  pub answer : ReleasedAnswer u p a slots
  pub step_bound : (zs : List ℕ) → length zs ≡ length p.vertices → RestsOn u zs → 1 ≤ sum zs →
      StepBound p.schedule a.steps (diameter (on_released u p)) a.distance (a.weight * a.weight) (sum zs) (mixture_distance p zs)
  -- Spent: no squared distance is below the tolerance less that bound
  pub spent : verdict_number a.verdict ≡ 3 → (zs : List ℕ) → length zs ≡ length p.vertices → RestsOn u zs → 1 ≤ sum zs →
      StepBound p.schedule a.steps (diameter (on_released u p)) p.tolerance 1 (sum zs) (mixture_distance p zs)

-- ---- Books that a call cannot tell apart

-- of the same counts, with the same rows at the released boats
pub record SameReleased (u : Usable) (b b' : List ℕ) : Type 0 where
  pub boats_same : boats b ≡ boats b'
  pub columns_same : columns b ≡ columns b'
  pub rows_same : (i : ℕ) → i < boats b → may_use u i ≡ true → row (rows b) i ≡ row (rows b') i

-- the boats that may be used are those of a book of n boats, all of them and no other
abbrev pub AllBoats : Usable → (boats : ℕ) → Type 0
AllBoats u n = (i : ℕ) → (i < n → may_use u i ≡ true) × (n ≤ i → may_use u i ≡ false)
