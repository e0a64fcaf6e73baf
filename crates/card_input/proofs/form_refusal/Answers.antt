-- `card_input::form_refusal` meets its contract.
use native.Mathlib.Omega.{arith}
use Rattle.files.proofs.Refusal.{at_least}
use Rattle.card_input.proofs.Reading.{length_out, letters_differ, counts_out, steps_refused, back_refused, pairs_refused, form_right, body_room}
use borrow.Author.Rules.{rules}
use mathlib.Core.Path.{ap}
use mathlib.Core.Bool.{not}
use Rattle.card_input.proofs.form_refusal.Goals as goal

pub returns-then-not-is_between : goal.returns-then-not-is_between
returns-then-not-is_between c = length_out _ _ _ _ _ c.is_between.ensures (ap not c.if-not-is_between.true)

pub is_lettered-requires : goal.is_lettered-requires
is_lettered-requires c = search (rules, at_least)

pub returns-then-not-is_lettered : goal.returns-then-not-is_lettered
returns-then-not-is_lettered c = letters_differ _ _ _ _ _ c.is_between.ensures (ap not c.if-not-is_between.false) _ c.is_lettered.ensures (ap not c.if-not-is_lettered.true)

pub counts_agree-requires : goal.counts_agree-requires
counts_agree-requires c = search (rules, at_least)

pub returns-then-not-counts_agree : goal.returns-then-not-counts_agree
returns-then-not-counts_agree c = counts_out _ _ _ _ _ c.is_between.ensures (ap not c.if-not-is_between.false) _ c.is_lettered.ensures (ap not c.if-not-is_lettered.false) _ c.counts_agree.ensures (ap not c.if-not-counts_agree.true)

pub steps_fit-requires : goal.steps_fit-requires
steps_fit-requires c = search (rules, at_least)

pub returns-then-not-steps_fit : goal.returns-then-not-steps_fit
returns-then-not-steps_fit c = steps_refused _ _ _ _ _ c.is_between.ensures (ap not c.if-not-is_between.false) _ c.is_lettered.ensures (ap not c.if-not-is_lettered.false) _ c.counts_agree.ensures (ap not c.if-not-counts_agree.false) _ c.steps_fit.ensures (ap not c.if-not-steps_fit.true)

pub back_fits-requires : goal.back_fits-requires
back_fits-requires c = (search (rules, at_least), search rules)

pub returns-then-not-back_fits : goal.returns-then-not-back_fits
returns-then-not-back_fits c = back_refused _ _ _ _ _ c.is_between.ensures (ap not c.if-not-is_between.false) _ c.is_lettered.ensures (ap not c.if-not-is_lettered.false) _ c.counts_agree.ensures (ap not c.if-not-counts_agree.false) _ c.steps_fit.ensures (ap not c.if-not-steps_fit.false) _ c.back_fits.ensures (ap not c.if-not-back_fits.true)

pub pair_count-count-requires : goal.pair_count-count-requires
pair_count-count-requires c = search (rules, at_least)

pub overflow_sub-card : goal.overflow_sub-card
overflow_sub-card c = search (rules, at_least)

pub overflow_sub-card-2 : goal.overflow_sub-card-2
overflow_sub-card-2 c = body_room c.args.boats c.args.card.now _ c.back_fits.ensures (ap not c.if-not-back_fits.false) _ c.pair_count-count.ensures.value

pub pairs_in_order-requires : goal.pairs_in_order-requires
pairs_in_order-requires c = omega (arith, body_room c.args.boats c.args.card.now _ c.back_fits.ensures (ap not c.if-not-back_fits.false) _ c.pair_count-count.ensures.value)

pub returns-then-not-pairs_in_order : goal.returns-then-not-pairs_in_order
returns-then-not-pairs_in_order c = pairs_refused _ _ _ _ _ c.is_between.ensures (ap not c.if-not-is_between.false) _ c.is_lettered.ensures (ap not c.if-not-is_lettered.false) _ c.counts_agree.ensures (ap not c.if-not-counts_agree.false) _ c.steps_fit.ensures (ap not c.if-not-steps_fit.false) _ c.back_fits.ensures (ap not c.if-not-back_fits.false) _ c.pair_count-count.ensures.value _ c.pairs_in_order.ensures (ap not c.if-not-pairs_in_order.true)

pub returns : goal.returns
returns c = form_right _ _ _ _ _ c.is_between.ensures (ap not c.if-not-is_between.false) _ c.is_lettered.ensures (ap not c.if-not-is_lettered.false) _ c.counts_agree.ensures (ap not c.if-not-counts_agree.false) _ c.steps_fit.ensures (ap not c.if-not-steps_fit.false) _ c.back_fits.ensures (ap not c.if-not-back_fits.false) _ c.pair_count-count.ensures.value _ c.pairs_in_order.ensures (ap not c.if-not-pairs_in_order.false)
