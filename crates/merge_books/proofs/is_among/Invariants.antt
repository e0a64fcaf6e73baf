-- `merge_books::is_among` meets its contract. The loop keeps `Looking`: none of the first i rows is the row looked for, so the rows that are left decide.
-- A turn compares one row: equal ends the loop, unequal leaves the answer to the rows behind it.
-- It ends: the rows that are left, count - i, fall by one.
use Rattle.files.specs.Bytes.{values}
use Rattle.merge_books.proofs.Looking.{Looking}
use Rattle.merge_books.proofs.is_among.Given as goal

abbrev pub invariant-loop-i : goal.invariant-loop-i
invariant-loop-i l = Looking l.rows l.count l.columns (values l.columns l.row) l.i l.at
