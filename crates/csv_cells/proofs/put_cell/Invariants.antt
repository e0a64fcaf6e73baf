-- `csv_cells::put_cell` meets its contract. The loop keeps `Celling`: the n bytes that are put, with those that the bytes from i on still give, are the field's text.
-- A turn reads one byte to a token and puts the token where it is in the field; past the field nothing more comes.
-- It ends: the bytes that are left fall by one.
use Rattle.csv_cells.proofs.Celling.{Celling}
use Rattle.csv_cells.specs.Cells.{numbered}
use Rattle.csv_cells.proofs.put_cell.Given as goal

abbrev pub invariant-loop-i : goal.invariant-loop-i
invariant-loop-i l = Celling l.row l.field l.csv l.initial.output l.separator (numbered l.place) l.mode l.n l.i l.output
