-- `queue_rounds::clear_parts` meets its contract. The loop keeps `Cleared`: in the first i parts the slots of the boats are 0 and the others as they were, and so are all slots behind these parts.
-- A turn sets the slots of the boats in part i to 0.
-- It ends: the parts that are left fall by one.
use native.Mathlib.Omega.{arith}
use Rattle.queue_rounds.proofs.Works.{mid_length}
use Rattle.queue_rounds.proofs.Clearing.{cleared_none, cleared_more, cleared_all}
use Rattle.queue_rounds.proofs.clear_parts.Goals as goal

pub loop-i-init : goal.loop-i-init
loop-i-init c = (omega arith, cleared_none)

pub overflow_mul-at : goal.overflow_mul-at
overflow_mul-at c = record { fits = omega (arith, c.requires.1, c.loop-i-test.true) }

pub overflow_add-end : goal.overflow_add-end
overflow_add-end c = record { fits = omega (arith, c.requires.1, c.loop-i-test.true) }

pub offset_bounds-shares-at : goal.offset_bounds-shares-at
offset_bounds-shares-at c = record { fits = omega (arith, c.requires.1, c.loop-i-test.true) }

pub slice_bounds-clear-end : goal.slice_bounds-clear-end
slice_bounds-clear-end c = omega (arith, c.requires.1, c.loop-i-test.true, c.loop-i.invariant.1.long)

pub clear-requires : goal.clear-requires
clear-requires c = omega (arith, c.requires.0, mid_length c.loop-i.i c.loop-i.shares (omega (arith, c.requires.1, c.loop-i-test.true, c.loop-i.invariant.1.long)))

pub loop-i-preserved : goal.loop-i-preserved
loop-i-preserved c = (omega arith, cleared_more c.loop-i.invariant.1 c.requires.0 (omega (arith, c.requires.1, c.loop-i-test.true)) c.clear.ensures)

pub shape_of-shares : goal.shape_of-shares
shape_of-shares c = c.loop-i.invariant.1.long

pub returns : goal.returns
returns c = cleared_all c.loop-i.invariant.1 c.loop-i.invariant.0 c.loop-i-test.false
