-- `queue_rounds::one_round` meets its contract. The loop keeps `Partway`: the turns of the sheets from i on end where the whole round ends; `Working` holds, and slots that are no shares are as they were.
-- A turn of the loop gives sheet i its turn.
-- It ends: the sheets that are left fall by one.
use mathlib.Core.Path.{sym, ◌∙◌}
use native.Mathlib.Omega.{arith}
use Rattle.queue_rounds.proofs.Passes.{starts, passes, passed}
use Rattle.queue_rounds.proofs.Works.{own_length, rest_same, rest_both}
use Rattle.queue_rounds.proofs.one_round.Goals as goal

pub loop-i-init : goal.loop-i-init
loop-i-init c = (omega arith, (c.requires, (starts c.requires.kept, rest_same)))

pub turn-next-requires : goal.turn-next-requires
turn-next-requires c = record { i_lt_count = c.loop-i-test.true; working = c.loop-i.invariant.1.0 }

pub loop-i-preserved : goal.loop-i-preserved
loop-i-preserved c =
    let v = c.loop-i.invariant in
    (omega arith, (c.turn-next.ensures.working_2, (passes v.1.1.0 (omega (arith, own_length v.1.0.accepted, c.loop-i-test.true)) c.turn-next.ensures.turned, rest_both v.1.1.1 c.turn-next.ensures.same_rest)))

pub shape_of-shares : goal.shape_of-shares
shape_of-shares c = c.loop-i.invariant.1.1.1.long

pub shape_of-scores : goal.shape_of-scores
shape_of-scores c = c.loop-i.invariant.1.0.scores_long ∙ sym c.requires.scores_long

pub returns : goal.returns
returns c =
    let v = c.loop-i.invariant in
    record { working = v.1.0; rounded = passed v.1.1.0 (omega (arith, own_length v.1.0.accepted, c.loop-i-test.false)); same_rest = v.1.1.1 }
