-- `test_scale::draws::cells` meets its contract.
use Prim.Native.Nat.{◌≤◌}
use Rattle.test_scale.proofs.draws.cells.Given as goal

abbrev pub invariant-loop-i : goal.invariant-loop-i
invariant-loop-i l = l.i ≤ 64
