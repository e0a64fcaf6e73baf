-- `csv_sheet_rows::row_of` meets its contract. The loop keeps `Seeking`: none of the rows after this one is of the kind.
-- A turn looks at one row, by its slots.
use Prim.Native.Nat.{◌≤◌}
use Rattle.csv_sheet_rows.specs.Numbers.{kind_number}
use Rattle.csv_sheet_rows.proofs.RowKinds.{Seeking}
use Rattle.csv_sheet_rows.proofs.row_of.Given as goal

abbrev pub invariant-loop-row : goal.invariant-loop-row
invariant-loop-row l = (l.row ≤ l.n) × Seeking (kind_number l.kind) l.n l.csv l.row
