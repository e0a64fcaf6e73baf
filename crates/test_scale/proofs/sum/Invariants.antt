-- `test_scale::sum` meets its contract.
use Prim.Native.Nat.{◌≤◌}
use Rattle.test_scale.proofs.sum.Given as goal

abbrev pub invariant-loop-i : goal.invariant-loop-i
invariant-loop-i l = l.i ≤ 64
