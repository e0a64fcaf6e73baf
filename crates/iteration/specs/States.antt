-- Where the files' values stand, and what a state of the search holds. Assumes nothing.
use Rattle.std.specs.Prelude.{◌≡◌, List, ℕ, ℤ}
use Rattle.files.specs.Book.{boats, columns, rows, rows_offset}
use Rattle.files.specs.Sheet.{sheet, target_offset}
use Rattle.method.specs.Problem.{Schedule, weight}
use Rattle.method.specs.Plain.{plain_problem}
use Rattle.method.specs.Iterates as M
use Rattle.method.specs.Iterates.{Iterate, iterate, direction, pick, row, residual, distance}
use Rattle.method.specs.Minimum.{minimum}
use Rattle.frank_wolfe.specs.Vectors.{subtract, weighted, ones}
use Rattle.iteration.specs.declared.Layout.{Layout}
use Rattle.iteration.specs.declared.State.{State}

unfoldable pub file_layout : (b s : List ℕ) → Layout
file_layout b s = record { boats = boats b; columns = columns b; rows = rows_offset b; target = target_offset s }

-- the iterate of a fleet book and a sheet after t steps with these shares
abbrev pub iterate_of : Schedule → (b s : List ℕ) → (t : ℕ) → Iterate
iterate_of a b s t = iterate (plain_problem a b s) t

-- the scores that step t + 1 picks by
abbrev pub scores_of : Schedule → (b s : List ℕ) → (t : ℕ) → List ℤ
scores_of a b s t = M.scores (ones (columns b)) (direction (plain_problem a b s) t (iterate_of a b s t)) (rows b)

-- the boat that step t + 1 picks
abbrev pub pick_at : Schedule → (b s : List ℕ) → (t : ℕ) → ℕ
pick_at a b s t = pick (plain_problem a b s) (direction (plain_problem a b s) t (iterate_of a b s t)) (iterate_of a b s t)

-- a boat's row less the target
abbrev pub boat_difference : (b s : List ℕ) → (boat : ℕ) → List ℤ
boat_difference b s i = subtract (row (rows b) i) (sheet s).target

-- its products with every row
abbrev pub boat_products : (b s : List ℕ) → (boat : ℕ) → List ℤ
boat_products b s i = M.scores (ones (columns b)) (boat_difference b s i) (rows b)

-- and with the target
abbrev pub target_product : (b s : List ℕ) → (boat : ℕ) → ℤ
target_product b s i = weighted (ones (columns b)) (boat_difference b s i) (sheet s).target

-- the state x holds W, E and the target's score of the iterate after t steps, and the boat that the next step picks, with its score, which is the least
pub record Holds (a : Schedule) (b s : List ℕ) (t : ℕ) (x : State) : Type 0 where
  pub steps_are : x.steps ≡ t
  pub weight_is : x.weight ≡ weight a t
  pub distance_is : x.distance ≡ distance (plain_problem a b s) t (iterate_of a b s t)
  pub target_score_is : x.target_score ≡ weighted (ones (columns b)) (residual (plain_problem a b s) t (iterate_of a b s t)) (sheet s).target
  pub best_is : x.best ≡ pick_at a b s t
  pub least_is : x.least ≡ minimum (scores_of a b s t)
