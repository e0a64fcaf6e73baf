-- `csv_column_match::column_of` meets its contract. The loop keeps this: the columns above j have another name, so those up to j decide.
-- A turn compares the name of column j.
use mathlib.Core.List.{List}
use mathlib.Core.Path.{◌≡◌}
use Prim.Native.Nat.{ℕ, ◌≤◌}
use Rattle.csv_slots.specs.Slots.{Held}
use Rattle.csv_column_match.specs.Match.{column_of}
use Rattle.csv_column_match.proofs.column_of.Given as goal

abbrev pub invariant-loop-j : goal.invariant-loop-j
invariant-loop-j l = (l.j ≤ l.n) × ((csv : List ℕ) → Held 0 1 csv l.sizes l.cells → column_of l.name l.j csv ≡ column_of l.name l.n csv)
