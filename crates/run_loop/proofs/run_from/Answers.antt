-- `run_loop::run_from` meets its contract. The loop keeps `Kept`: state, shares, scores and memory are those of the method after as many steps as the state says, and no step before stopped the run.
-- A turn is one call of `step`, whose contract gives all of them after one step more; a verdict that does not stop leaves the run going.
-- It ends: the steps that are left fall by one, and at the last the verdict stops.
use mathlib.Core.Path.{sym}
use native.Mathlib.Omega.{arith}
use borrow.Author.Rules.{rules}
use Rattle.method.proofs.Schedules.{schedule_sized}
use Rattle.run_loop.proofs.Runs.{next_answerable, going_more, going_done}
use Rattle.run_loop.proofs.Keeping.{kept_start, left_here, kept_more, kept_done}
use Rattle.run_loop.proofs.run_from.Goals as goal

pub loop-layout-init : goal.loop-layout-init
loop-layout-init c = kept_start _ _ c.requires.sheet_value (schedule_sized _ c.requires.table_value) c.requires.holds c.requires.shares_at c.requires.scores_at c.requires.book_in_bounds

pub slice_bounds-step-end : goal.slice_bounds-step-end
slice_bounds-step-end c = sym c.loop-layout.invariant.remembers.tags_long

pub slice_bounds-step-end-in-loop-layout : goal.slice_bounds-step-end-in-loop-layout
slice_bounds-step-end-in-loop-layout c = sym c.loop-layout.invariant.remembers.targets_long

pub step-state-requires : goal.step-state-requires
step-state-requires c =
    let k = c.loop-layout.invariant in
    record { sheet_value = c.requires.sheet_value; table_value = c.requires.table_value; layout_value = c.requires.layout_value; holds = k.going.held; steps_bound = left_here _ _ c.requires.sheet_value (schedule_sized _ c.requires.table_value) k; shares_at = k.shared; scores_at = k.scored; remembered = k.remembers }

pub answer-answer-requires : goal.answer-answer-requires
answer-answer-requires c =
    let S = schedule_sized _ c.requires.table_value in
    next_answerable _ _ c.requires.sheet_value S c.loop-layout.invariant.going c.step-state.ensures.holds_2

pub shape_of-shares-then-stops : goal.shape_of-shares-then-stops
shape_of-shares-then-stops c = search (rules, c.step-state.type_inv, (c.loop-layout.invariant.shares_long))

pub shape_of-scores-then-stops : goal.shape_of-scores-then-stops
shape_of-scores-then-stops c = search (rules, c.step-state.type_inv, (c.loop-layout.invariant.scores_long))

pub shape_of-memory-then-stops : goal.shape_of-memory-then-stops
shape_of-memory-then-stops c = search (rules, c.step-state.type_inv, (c.loop-layout.invariant.memory_long))

pub returns-then-stops : goal.returns-then-stops
returns-then-stops c =
    let S = schedule_sized _ c.requires.table_value in
    let k = c.loop-layout.invariant in
    let d = going_done _ _ c.requires.sheet_value S k.going c.step-state.ensures.holds_2 c.answer-answer.ensures c.requires.steps_value c.stops.ensures c.if-stops.true in
    let q = kept_done _ _ c.requires.sheet_value S k c.step-state.ensures.holds_2 c.step-state.ensures.shares_after c.step-state.ensures.scores_after c.step-state.ensures.memory_after d.1.0 d.1.1 in
    record { value = d.0; shares_after = q.0; scores_after = q.1.0; memory_after = q.1.1 }

pub loop-layout-smaller : goal.loop-layout-smaller
loop-layout-smaller c = omega (arith, c.step-state.ensures.holds_2.steps_are, c.loop-layout.invariant.going.left, c.requires.steps_value)

pub loop-layout-preserved : goal.loop-layout-preserved
loop-layout-preserved c =
    let S = schedule_sized _ c.requires.table_value in
    let k = c.loop-layout.invariant in
    kept_more _ _ c.requires.sheet_value S k c.step-state.ensures.holds_2 c.step-state.ensures.shares_after c.step-state.ensures.scores_after c.step-state.ensures.memory_after (going_more _ _ c.requires.sheet_value S k.going c.step-state.ensures.holds_2 c.answer-answer.ensures c.requires.steps_value c.stops.ensures c.if-stops.false)
