-- `test_buffers::put_number` meets its contract.
use Prim.Native.Nat.{◌-◌}
use Rattle.files.specs.Bytes.{number_bytes}
use Rattle.test_buffers.proofs.Putting.{Putting}
use Rattle.test_buffers.proofs.put_number.Given as goal

abbrev pub invariant-loop-i : goal.invariant-loop-i
invariant-loop-i l = Putting l.initial.buffer l.at (number_bytes l.count l.x) l.buffer l.next (number_bytes (l.count - l.i) l.rest)
