-- `test_scale::print_first` meets its contract.
use Prim.Native.Nat.{◌≤◌}
use Rattle.test_scale.proofs.print_first.Given as goal

abbrev pub invariant-loop-i : goal.invariant-loop-i
invariant-loop-i l = l.i ≤ 5
