-- `test_samples::put_middle` meets its contract.
use Prim.Native.Nat.{◌-◌}
use Rattle.test_buffers.proofs.Putting.{Putting}
use Rattle.test_samples.specs.Rows.{middle}
use Rattle.test_samples.proofs.put_middle.Given as goal

abbrev pub invariant-loop-i : goal.invariant-loop-i
invariant-loop-i l = Putting l.initial.buffer l.at (middle l.columns 0 l.from l.a l.b) l.buffer l.next (middle (l.columns - l.i) l.i l.from l.a l.b)
