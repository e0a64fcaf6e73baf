-- `csv_cells::scan` meets its contract. The loop keeps `Scanning`: place, line and width, followed through the bytes that are left, end as the definitions say.
-- A turn reads one byte to a token and moves place, line and width by it.
-- It ends: the bytes that are left fall by one.
use Rattle.csv_cells.proofs.Scans.{Scanning}
use Rattle.csv_cells.specs.Cells.{numbered}
use Rattle.csv_cells.proofs.scan.Given as goal

abbrev pub invariant-loop-i : goal.invariant-loop-i
invariant-loop-i l = Scanning l.row l.csv l.separator (numbered l.place) l.mode l.line l.n l.i
