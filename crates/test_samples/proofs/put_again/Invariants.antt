-- `test_samples::put_again` meets its contract.
use Prim.Native.Nat.{◌-◌}
use Rattle.test_buffers.proofs.Putting.{Putting}
use Rattle.test_samples.specs.Rows.{again}
use Rattle.test_samples.proofs.put_again.Given as goal

abbrev pub invariant-loop-i : goal.invariant-loop-i
invariant-loop-i l = Putting l.initial.buffer l.at (again l.count l.count l.initial.buffer l.at) l.buffer l.next (again l.count (l.count - l.i) l.buffer l.next)
