-- `csv_slots::width_in` meets its contract. The loop keeps `Narrowing`: the fields from n on are empty, so those below n decide.
-- A turn looks at field n - 1.
use mathlib.Core.List.{List}
use Prim.Native.Nat.{ℕ, ◌+◌, ◌≤◌, ◌<◌}
use Rattle.csv_slots.specs.Slots.{Held}
use Rattle.csv_slots.proofs.Holding.{Narrowing}
use Rattle.csv_slots.proofs.width_in.Given as goal

abbrev pub invariant-loop-n : goal.invariant-loop-n
invariant-loop-n l = (l.n ≤ 65) × ((first rows : ℕ) (csv cells : List ℕ) → Held first rows csv l.sizes cells → l.row < rows → Narrowing (first + l.row) csv l.n)
