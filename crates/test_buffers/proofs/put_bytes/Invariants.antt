-- `test_buffers::put_bytes` meets its contract.
use lib.ListN.{drop}
use Rattle.test_buffers.proofs.Putting.{Putting}
use Rattle.test_buffers.proofs.put_bytes.Given as goal

abbrev pub invariant-loop-byte : goal.invariant-loop-byte
invariant-loop-byte l = Putting l.initial.buffer l.at l.bytes l.buffer l.next (drop l.byte-index l.bytes)
