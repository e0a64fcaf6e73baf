-- `test_gap::follow` meets its contract. The loop keeps `Followed`: state, shares, scores and memory are those of the method after as many steps as the state says.
-- A turn is one call of `step`, whose contract gives all of them after one step more.
use mathlib.Core.Path.{refl, sym}
use native.Mathlib.Omega.{arith}
use Rattle.iteration.proofs.States.{sheet_fits}
use Rattle.test_gap.proofs.Following.{follow_start, few, follow_answerable, follow_more}
use Rattle.test_gap.proofs.follow.Goals as goal

pub steps-steps-requires : goal.steps-steps-requires
steps-steps-requires c = (sheet_fits _ _ c.requires.sheet_value).at_least

pub loop-made-init : goal.loop-made-init
loop-made-init c = (c.requires.holds.steps_are, follow_start _ _ c.requires.sheet_value c.requires.holds)

pub slice_bounds-step-end : goal.slice_bounds-step-end
slice_bounds-step-end c = sym c.loop-made.invariant.1.shares_long

pub slice_bounds-step-end-in-loop-made : goal.slice_bounds-step-end-in-loop-made
slice_bounds-step-end-in-loop-made c = sym c.loop-made.invariant.1.long

pub slice_bounds-step-end-in-loop-made-2 : goal.slice_bounds-step-end-in-loop-made-2
slice_bounds-step-end-in-loop-made-2 c = sym c.loop-made.invariant.1.remembers.tags_long

pub slice_bounds-step-end-in-loop-made-3 : goal.slice_bounds-step-end-in-loop-made-3
slice_bounds-step-end-in-loop-made-3 c = sym c.loop-made.invariant.1.remembers.targets_long

pub slice_bounds-step-end-in-loop-made-4 : goal.slice_bounds-step-end-in-loop-made-4
slice_bounds-step-end-in-loop-made-4 c = sym c.loop-made.invariant.1.memory_long

pub step-state-requires : goal.step-state-requires
step-state-requires c =
    let ok = c.requires.sheet_value in
    let f = c.loop-made.invariant.1 in
    record { sheet_value = ok; table_value = refl; layout_value = c.requires.layout_value; holds = f.held; steps_bound = few _ _ ok f (omega (arith, c.loop-made.invariant.0, c.loop-made-test.true, c.steps-steps.ensures)); shares_at = f.shared; scores_at = f.scored; remembered = f.remembers }

pub answer-requires : goal.answer-requires
answer-requires c = follow_answerable _ _ c.requires.sheet_value c.loop-made.invariant.1 (omega (arith, c.loop-made.invariant.0, c.loop-made-test.true, c.steps-steps.ensures)) c.step-state.ensures.holds_2

pub loop-made-preserved : goal.loop-made-preserved
loop-made-preserved c = (
  omega (arith, c.loop-made.invariant.0, c.step-state.ensures.holds_2.steps_are),
  follow_more _ _ c.requires.sheet_value c.loop-made.invariant.1 (omega (arith, c.loop-made.invariant.0, c.loop-made-test.true, c.steps-steps.ensures)) c.step-state.ensures.holds_2 c.step-state.ensures.shares_after c.step-state.ensures.scores_after c.step-state.ensures.memory_after,
)
