-- `test_queue::records` meets its contract.
use Prim.Native.Nat.{◌≤◌}
use Rattle.test_queue.proofs.records.Given as goal

abbrev pub invariant-loop-i : goal.invariant-loop-i
invariant-loop-i l = l.i ≤ l.count
