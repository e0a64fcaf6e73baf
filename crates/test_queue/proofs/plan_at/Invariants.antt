-- `test_queue::plan_at` meets its contract. The loop keeps that i is at most 16.
-- A turn reads length i at its place in the case and puts it.
-- It ends: the lengths that are left of 16 fall by one.
use Prim.Native.Nat.{◌≤◌}
use Rattle.test_queue.proofs.plan_at.Given as goal

abbrev pub invariant-loop-i : goal.invariant-loop-i
invariant-loop-i l = l.i ≤ 16
