-- `buffers::put` meets its contract; `Inv-loop` is what its loop keeps.
use Rattle.buffers.proofs.Writing.{Putting}
use Rattle.buffers.proofs.put.Given as goal

abbrev pub invariant-loop-i : goal.invariant-loop-i
invariant-loop-i l = Putting l.initial.output l.at l.width l.number l.i l.rest l.output
