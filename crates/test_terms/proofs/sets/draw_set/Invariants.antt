-- `test_terms::sets::draw_set` meets its contract.
use Prim.Native.Nat.{◌-◌, ◌≤◌}
use Rattle.test_terms.proofs.sets.draw_set.Given as goal

abbrev pub invariant-loop-k : goal.invariant-loop-k
invariant-loop-k l = l.k ≤ 32
