-- `merge_books::put_rows` meets its contract. The loop keeps `Merging`: of the second book's first i rows those that are new stand behind the first book's, and the rows that are left decide the rest.
-- A turn compares row i with every row so far and copies it if it is new, which is what `with_rows` does with the next row.
-- It ends: the rows that are left, boats - i, fall by one.
use Rattle.merge_books.proofs.Merging.{Merging}
use Rattle.merge_books.proofs.put_rows.Given as goal

abbrev pub invariant-loop-i : goal.invariant-loop-i
invariant-loop-i l = Merging l.initial.rows l.first l.second l.count l.at l.i l.rows
