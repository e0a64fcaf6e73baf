-- `csv_sheet_parts::put_target` meets its contract. The loop keeps `ValuesPut`: the values of the first i columns are written, two bytes each.
-- A turn reads the cell of column i and writes its value.
-- It ends: the columns that are left fall by one.
use Rattle.csv_sheet_parts.proofs.Putting.{ValuesPut}
use Rattle.csv_sheet_parts.proofs.put_target.Given as goal

abbrev pub invariant-loop-i : goal.invariant-loop-i
invariant-loop-i l = ValuesPut l.places l.csv l.initial.output l.row l.i l.output
