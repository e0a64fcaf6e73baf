-- `queue_rounds::clear_parts` meets its contract. The loop keeps `Cleared`: in the first i parts the slots of the boats are 0 and the others as they were, and so are all slots behind these parts.
-- A turn sets the slots of the boats in part i to 0.
-- It ends: the parts that are left fall by one.
use Prim.Native.Nat.{◌≤◌}
use Rattle.queue_rounds.proofs.Clearing.{Cleared}
use Rattle.queue_rounds.proofs.clear_parts.Given as goal

abbrev pub invariant-loop-i : goal.invariant-loop-i
invariant-loop-i l = (l.i ≤ l.count) × Cleared l.boats l.i l.initial.shares l.shares
