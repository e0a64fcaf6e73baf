-- `queue_rounds::serve` meets its contract. The loop keeps `Serving`: the steps used are those after some number of whole rounds, and with the steps left they are the allowance; `Working` holds, and slots that are no shares are as they were.
-- A turn makes one more round; where it takes no step, no later round takes one, and the function returns.
-- It ends: a round that takes a step leaves fewer steps of the allowance.
use Rattle.queue_rounds.specs.Plans.{own_of}
use Rattle.queue_rounds.specs.Work.{Working, SameRest}
use Rattle.queue_rounds.proofs.Serving.{Serving}
use Rattle.queue_rounds.proofs.serve.Given as goal

abbrev pub invariant-loop-plan : goal.invariant-loop-plan
invariant-loop-plan l = Working l.book l.plan l.sheets l.next l.shares l.scores × (Serving (own_of l.book l.plan l.sheets) l.initial.next.rounds.left l.next.rounds × SameRest l.book l.plan.count l.initial.shares l.shares)

abbrev pub decreases-loop-plan : goal.decreases-loop-plan
decreases-loop-plan l = l.next.rounds.left
