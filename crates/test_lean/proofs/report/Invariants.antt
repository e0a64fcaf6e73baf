-- `test_lean::report` meets its contract. The loop keeps that k pairs were read, no more than there are, and that the slots are 16,384.
-- A turn reads and checks one pair; its contract keeps the slots' number.
-- It ends: the pairs that are left fall by one.
use mathlib.Core.Path.{◌≡◌}
use Prim.Native.Nat.{◌-◌, ◌≤◌}
use lib.ListN.{length}
use Rattle.test_lean.proofs.report.Given as goal

abbrev pub invariant-loop-k : goal.invariant-loop-k
invariant-loop-k l = (l.k ≤ l.pairs) × (length l.slots ≡ 16384)
