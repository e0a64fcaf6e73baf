-- `queue_rounds::one_round` meets its contract. The loop keeps `Partway`: the turns of the sheets from i on end where the whole round ends; `Working` holds, and slots that are no shares are as they were.
-- A turn of the loop gives sheet i its turn.
-- It ends: the sheets that are left fall by one.
use Prim.Native.Nat.{◌≤◌}
use Rattle.queue_rounds.specs.Plans.{own_of}
use Rattle.queue_rounds.specs.Work.{Working, SameRest}
use Rattle.queue_rounds.proofs.Passes.{Partway}
use Rattle.queue_rounds.proofs.one_round.Given as goal

abbrev pub invariant-loop-i : goal.invariant-loop-i
invariant-loop-i l = (l.i ≤ l.plan.count) × (Working l.book l.plan l.sheets l.next l.shares l.scores × (Partway (own_of l.book l.plan l.sheets) l.initial.next.rounds l.i l.next.rounds × SameRest l.book l.plan.count l.initial.shares l.shares))
