-- `queue_rounds::start_all` meets its contract. The loop keeps `StartedTo`: the first i sheets have their first states.
-- A turn puts the first state of sheet i.
-- It ends: the sheets that are left fall by one.
use native.Mathlib.Omega.{arith}
use lib.ListN.{length-replicate}
use Rattle.queue_rounds.specs.Work.{no_state}
use Rattle.queue_rounds.proofs.Ends.{started_none, started_more, started_all}
use Rattle.queue_rounds.proofs.start_all.Goals as goal

pub loop-i-init : goal.loop-i-init
loop-i-init c = (omega arith, started_none (length-replicate 16 no_state))

pub sheet_at-requires : goal.sheet_at-requires
sheet_at-requires c = record { i_lt_count = (c.loop-i-test.true, c.requires.few); plan_value = c.requires.total }

pub start-state-requires : goal.start-state-requires
start-state-requires c = rw c.sheet_at.ensures (c.requires.each _ c.loop-i-test.true)

pub offset_bounds-states-i : goal.offset_bounds-states-i
offset_bounds-states-i c = record { fits = omega (arith, c.requires.few, c.loop-i-test.true) }

pub bounds-states-i : goal.bounds-states-i
bounds-states-i c = omega (arith, c.requires.few, c.loop-i-test.true)

pub loop-i-preserved : goal.loop-i-preserved
loop-i-preserved c = (omega arith, started_more c.loop-i.invariant.1 (omega (arith, c.requires.few, c.loop-i-test.true)) c.sheet_at.ensures c.start-state.ensures)

pub returns : goal.returns
returns c = started_all c.loop-i.invariant.1 c.loop-i-test.false
