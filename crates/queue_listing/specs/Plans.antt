-- Lengths of sheets as the queue's functions take them. Definitions only. Assumes nothing.
use Rattle.std.specs.Prelude.{◌≡◌, List, ℕ, ◌≤◌, length}
use Rattle.queue_rounds.specs.declared.Plan.{Plan}
use Rattle.queue_rounds.specs.Plans.{plan_lengths}

-- a plan of as many sheets, of these lengths where they are at most 16
pub record Plans (ns : List ℕ) (p : Plan) : Type 0 where
  pub count_is : p.count ≡ length ns
  pub long : length p.lengths ≡ 16
  pub lengths_are : length ns ≤ 16 → plan_lengths p ≡ ns
