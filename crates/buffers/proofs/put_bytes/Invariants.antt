-- `buffers::put_bytes` meets its contract: the bytes that are left are still to be put.
use Rattle.buffers.proofs.Writing.{Copying}
use Rattle.buffers.proofs.put_bytes.Given as goal

abbrev pub invariant-loop-i : goal.invariant-loop-i
invariant-loop-i l = Copying l.initial.output l.at l.bytes l.i l.output
