-- `csv_sheet_parts::put_factors` meets its contract. The loop keeps `FactorsPut`: the factors of the first i columns are written, a byte each.
-- A turn reads the factor of column i and writes it.
-- It ends: the columns that are left fall by one.
use Rattle.csv_sheet_parts.proofs.Putting.{FactorsPut}
use Rattle.csv_sheet_parts.proofs.put_factors.Given as goal

abbrev pub invariant-loop-i : goal.invariant-loop-i
invariant-loop-i l = FactorsPut l.places l.csv l.initial.output l.row l.i l.output
