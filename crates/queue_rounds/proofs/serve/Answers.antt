-- `queue_rounds::serve` meets its contract. The loop keeps `Serving`: the steps used are those after some number of whole rounds, and with the steps left they are the allowance; `Working` holds, and slots that are no shares are as they were.
-- A turn makes one more round; where it takes no step, no later round takes one, and the function returns.
-- It ends: a round that takes a step leaves fewer steps of the allowance.
use mathlib.Core.Path.{sym, ◌∙◌}
use Rattle.queue_rounds.proofs.Serving.{begins, goes, falls, stops}
use Rattle.queue_rounds.proofs.Works.{rest_same, rest_both}
use Rattle.queue_rounds.proofs.Ends.{served_end}
use Rattle.queue_rounds.proofs.serve.Goals as goal

pub loop-plan-init : goal.loop-plan-init
loop-plan-init c = (c.requires.working, (begins c.requires.working.kept c.requires.used_value.0, rest_same))

pub one_round-next-requires : goal.one_round-next-requires
one_round-next-requires c = c.loop-plan.invariant.0

pub shape_of-shares-then-after-before : goal.shape_of-shares-then-after-before
shape_of-shares-then-after-before c = (rest_both c.loop-plan.invariant.1.1 c.one_round-next.ensures.same_rest).long

pub shape_of-scores-then-after-before : goal.shape_of-scores-then-after-before
shape_of-scores-then-after-before c = c.one_round-next.ensures.working.scores_long ∙ sym c.requires.working.scores_long

pub returns-then-after-before : goal.returns-then-after-before
returns-then-after-before c =
    let v = c.loop-plan.invariant in
    record { served_all = served_end c.one_round-next.ensures.working (stops v.1.0 c.one_round-next.ensures.rounded c.if-after-before.true) c.requires.used_value.1; same_rest = rest_both v.1.1 c.one_round-next.ensures.same_rest }

pub loop-plan-smaller : goal.loop-plan-smaller
loop-plan-smaller c = falls c.loop-plan.invariant.1.0 c.one_round-next.ensures.rounded c.if-after-before.false

pub loop-plan-preserved : goal.loop-plan-preserved
loop-plan-preserved c =
    let v = c.loop-plan.invariant in
    (c.one_round-next.ensures.working, (goes v.1.0 c.one_round-next.ensures.rounded, rest_both v.1.1 c.one_round-next.ensures.same_rest))
