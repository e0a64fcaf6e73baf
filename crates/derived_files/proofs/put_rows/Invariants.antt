-- `derived_files::put_rows` meets its contract. The loop keeps `Rowing`: the rows of the first i boats are written, each column as often as its factor says.
-- A turn writes the row of boat i behind them by `copy_row`.
use Rattle.derived_files.proofs.Rows.{Rowing}
use Rattle.derived_files.proofs.put_rows.Given as goal

abbrev pub invariant-loop-i : goal.invariant-loop-i
invariant-loop-i l = Rowing l.initial.output l.book l.places l.i l.output
