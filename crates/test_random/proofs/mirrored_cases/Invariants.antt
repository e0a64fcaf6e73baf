-- `test_random::mirrored_cases` meets its contract.
use Prim.Native.Nat.{◌-◌, ◌≤◌}
use Rattle.test_random.proofs.mirrored_cases.Given as goal

abbrev pub invariant-loop-number : goal.invariant-loop-number
invariant-loop-number l = l.number ≤ 1000
