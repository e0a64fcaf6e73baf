-- `test_scale::main` meets its contract.
use Prim.Native.Nat.{◌≤◌}
use Rattle.test_scale.proofs.main.Given as goal

abbrev pub invariant-loop-number : goal.invariant-loop-number
invariant-loop-number l = l.number ≤ 3000
