-- `test_tables::put_fields` meets its contract.
use lib.ListN.{drop}
use Rattle.test_buffers.proofs.Putting.{Putting}
use Rattle.test_tables.specs.Tables.{fields}
use Rattle.test_tables.proofs.put_fields.Given as goal

abbrev pub invariant-loop-i : goal.invariant-loop-i
invariant-loop-i l = Putting l.initial.buffer l.at (fields l.line l.others l.letters l.sizes) l.buffer l.next (fields l.line l.others (drop l.i l.letters) (drop l.i l.sizes))
