-- `queue_rounds::start_all` meets its contract. The loop keeps `StartedTo`: the first i sheets have their first states.
-- A turn puts the first state of sheet i.
-- It ends: the sheets that are left fall by one.
use Prim.Native.Nat.{◌≤◌}
use Rattle.queue_rounds.proofs.Ends.{StartedTo}
use Rattle.queue_rounds.proofs.start_all.Given as goal

abbrev pub invariant-loop-i : goal.invariant-loop-i
invariant-loop-i l = (l.i ≤ l.plan.count) × StartedTo l.book l.plan l.sheets l.i l.states
