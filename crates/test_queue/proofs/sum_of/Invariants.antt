-- `test_queue::sum_of` meets its contract.
use Prim.Native.Nat.{◌<◌}
use Rattle.test_queue.proofs.sum_of.Given as goal

abbrev pub invariant-loop-i : goal.invariant-loop-i
invariant-loop-i l = l.sum < 1000003
