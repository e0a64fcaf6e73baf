-- `csv_bytes::separator` meets its contract. The loop keeps `Looking`: what is left of the text decides as the whole does.
-- A turn reads one byte.
-- It ends: the bytes that are left fall by one.
use Rattle.csv_bytes.proofs.Looking.{Looking}
use Rattle.csv_bytes.specs.Tokens.{reading_number}
use Rattle.csv_bytes.proofs.separator.Given as goal

abbrev pub invariant-loop-i : goal.invariant-loop-i
invariant-loop-i l = Looking l.csv l.best (reading_number l.known) l.mode l.i
