-- `derived_files::put_places` meets its contract. The loop keeps `Placing`: the places of the columns before j are written, each as often as its factor says.
-- A turn writes column j so often by `put_column`.
use Rattle.derived_files.proofs.Columns.{Placing}
use Rattle.derived_files.proofs.put_places.Given as goal

abbrev pub invariant-loop-j : goal.invariant-loop-j
invariant-loop-j l = Placing l.initial.list l.factors l.at l.j l.list
