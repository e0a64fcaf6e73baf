-- `derived_files::copy_row` meets its contract. The loop keeps `Copying`: the cells of the first k places are written, and those of the places that are left complete the row.
-- A turn writes the two bytes of the cell at place k.
use Rattle.derived_files.proofs.Columns.{Copying}
use Rattle.derived_files.proofs.copy_row.Given as goal

abbrev pub invariant-loop-k : goal.invariant-loop-k
invariant-loop-k l = Copying l.initial.output l.at l.bytes l.from l.places l.k l.output
