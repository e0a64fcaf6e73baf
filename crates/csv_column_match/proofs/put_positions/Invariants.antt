-- `csv_column_match::put_positions` meets its contract. The loop keeps `PositionsPut`: the positions of the first j columns are put, later bytes are as they were.
-- A turn looks column j up among the sheet's and puts its position.
-- It ends: the columns that are left fall by one.
use Rattle.csv_column_match.proofs.Positions.{PositionsPut}
use Rattle.csv_column_match.proofs.put_positions.Given as goal

abbrev pub invariant-loop-j : goal.invariant-loop-j
invariant-loop-j l = PositionsPut l.n l.fleet l.csv l.m l.initial.output l.j l.output
