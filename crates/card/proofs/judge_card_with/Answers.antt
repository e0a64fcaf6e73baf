-- `card::judge_card_with` meets its contract.
use Rattle.std.specs.Prelude.{option_copied}
use mathlib.Core.Path.{refl, ◌∙◌}
use Rattle.method.specs.Calls.{terms_in}
use Rattle.refusals.proofs.Numbers.{positive}
use Rattle.method.proofs.Accepted.{files_ok}
use Rattle.method.proofs.Searched.{passed_searched}
use Rattle.iteration.proofs.States.{sheet_fits}
use Rattle.card_truth.proofs.Judging.{formed}
use Rattle.card.proofs.Checking.{layout_boats, pairs_room, pairs_asked, found_are, refused_short, refused_by_form, form_zero, refused_by_rests, refused_by_truth, answered}
use borrow.Author.Rules.{rules}
use mathlib.Core.Path.{ap}
use mathlib.Core.Bool.{not}
use Rattle.card.proofs.judge_card_with.Goals as goal

pub layout_of-layout-requires : goal.layout_of-layout-requires
layout_of-layout-requires c = files_ok (terms_in c.args.released (option_copied c.args.table)) _ _ c.requires

pub returns-then-shares-boats : goal.returns-then-shares-boats
returns-then-shares-boats c =
    let q = refused_short c.args.released (option_copied c.args.table) _ _ _ _ c.requires c.layout_of-layout.ensures c.if-shares-boats.true in
    record { value = q.0; shares_after = q.1 }

pub steps-requires : goal.steps-requires
steps-requires c = (sheet_fits _ _ (files_ok (terms_in c.args.released (option_copied c.args.table)) _ _ c.requires)).at_least

pub form_refusal-requires : goal.form_refusal-requires
form_refusal-requires c = layout_boats _ _ (files_ok (terms_in c.args.released (option_copied c.args.table)) _ _ c.requires) c.layout_of-layout.ensures

pub returns-in_err-form_refusal : goal.returns-in_err-form_refusal
returns-in_err-form_refusal c =
    let q = refused_by_form c.args.released (option_copied c.args.table) _ _ _ _ c.requires c.layout_of-layout.ensures c.if-shares-boats.false refl (c.steps-steps.ensures ∙ rw c.steps.ensures) c.in_err-form_refusal.ensures (positive _) (passed_searched _ _ c.from_residual.ensures) in
    record { value = q.0; shares_after = q.1 }

pub pair_count-count-requires : goal.pair_count-count-requires
pair_count-count-requires c = (formed _ _ _ _ (form_zero c.args.released (option_copied c.args.table) _ _ _ c.args.shares.now c.requires c.layout_of-layout.ensures c.if-shares-boats.false refl (c.steps-steps.ensures ∙ rw c.steps.ensures) c.in_ok-form_refusal.ensures refl)).readable.long

pub overflow_sub-card : goal.overflow_sub-card
overflow_sub-card c = (formed _ _ _ _ (form_zero c.args.released (option_copied c.args.table) _ _ _ c.args.shares.now c.requires c.layout_of-layout.ensures c.if-shares-boats.false refl (c.steps-steps.ensures ∙ rw c.steps.ensures) c.in_ok-form_refusal.ensures refl)).readable.long

pub overflow_sub-card-2 : goal.overflow_sub-card-2
overflow_sub-card-2 c = pairs_room (terms_in c.args.released (option_copied c.args.table)) _ _ _ (files_ok (terms_in c.args.released (option_copied c.args.table)) _ _ c.requires) (form_zero c.args.released (option_copied c.args.table) _ _ _ c.args.shares.now c.requires c.layout_of-layout.ensures c.if-shares-boats.false refl (c.steps-steps.ensures ∙ rw c.steps.ensures) c.in_ok-form_refusal.ensures refl) c.pair_count-count.ensures.value

pub shares_of-found-requires : goal.shares_of-found-requires
shares_of-found-requires c =
    let q = pairs_asked (terms_in c.args.released (option_copied c.args.table)) _ _ _ (files_ok (terms_in c.args.released (option_copied c.args.table)) _ _ c.requires) (form_zero c.args.released (option_copied c.args.table) _ _ _ c.args.shares.now c.requires c.layout_of-layout.ensures c.if-shares-boats.false refl (c.steps-steps.ensures ∙ rw c.steps.ensures) c.in_ok-form_refusal.ensures refl) c.pair_count-count.ensures.value in
    record { count_in_bounds = q.0; card_value = q.1 }

pub rests-requires : goal.rests-requires
rests-requires c = layout_boats _ _ (files_ok (terms_in c.args.released (option_copied c.args.table)) _ _ c.requires) c.layout_of-layout.ensures

pub returns-then-not-rests : goal.returns-then-not-rests
returns-then-not-rests c =
    let right_form = form_zero c.args.released (option_copied c.args.table) _ _ _ c.args.shares.now c.requires c.layout_of-layout.ensures c.if-shares-boats.false refl (c.steps-steps.ensures ∙ rw c.steps.ensures) c.in_ok-form_refusal.ensures refl in
    let q = refused_by_rests c.args.released (option_copied c.args.table) _ _ _ _ c.requires c.layout_of-layout.ensures c.if-shares-boats.false refl (c.steps-steps.ensures ∙ rw c.steps.ensures) c.in_ok-form_refusal.ensures refl _ (found_are (terms_in c.args.released (option_copied c.args.table)) _ _ _ (files_ok (terms_in c.args.released (option_copied c.args.table)) _ _ c.requires) right_form c.pair_count-count.ensures.value c.shares_of-found.ensures) c.rests.ensures (ap not c.if-not-rests.true) in
    record { value = q.0; shares_after = q.1 }

pub judged-requires : goal.judged-requires
judged-requires c =
    let right_form = form_zero c.args.released (option_copied c.args.table) _ _ _ c.args.shares.now c.requires c.layout_of-layout.ensures c.if-shares-boats.false refl (c.steps-steps.ensures ∙ rw c.steps.ensures) c.in_ok-form_refusal.ensures refl in
    record { sheet_value = c.requires; card_readable = (formed _ _ _ _ right_form).readable }

pub fill-requires : goal.fill-requires
fill-requires c = (layout_boats _ _ (files_ok (terms_in c.args.released (option_copied c.args.table)) _ _ c.requires) c.layout_of-layout.ensures, c.if-shares-boats.false)

pub returns-in_err-answer : goal.returns-in_err-answer
returns-in_err-answer c =
    let right_form = form_zero c.args.released (option_copied c.args.table) _ _ _ c.args.shares.now c.requires c.layout_of-layout.ensures c.if-shares-boats.false refl (c.steps-steps.ensures ∙ rw c.steps.ensures) c.in_ok-form_refusal.ensures refl in
    let q = refused_by_truth c.args.released (option_copied c.args.table) _ _ _ _ c.requires c.layout_of-layout.ensures c.if-shares-boats.false refl (c.steps-steps.ensures ∙ rw c.steps.ensures) c.in_ok-form_refusal.ensures refl _ (found_are (terms_in c.args.released (option_copied c.args.table)) _ _ _ (files_ok (terms_in c.args.released (option_copied c.args.table)) _ _ c.requires) right_form c.pair_count-count.ensures.value c.shares_of-found.ensures) c.rests.ensures (ap not c.if-not-rests.false) _ c.in_err-answer.ensures (passed_searched _ _ c.from_residual-in_err-answer.ensures) in
    record { value = q.0; shares_after = q.1 }

pub returns : goal.returns
returns c =
    let right_form = form_zero c.args.released (option_copied c.args.table) _ _ _ c.args.shares.now c.requires c.layout_of-layout.ensures c.if-shares-boats.false refl (c.steps-steps.ensures ∙ rw c.steps.ensures) c.in_ok-form_refusal.ensures refl in
    let q = answered c.args.released (option_copied c.args.table) _ _ _ _ c.requires c.layout_of-layout.ensures c.if-shares-boats.false refl (c.steps-steps.ensures ∙ rw c.steps.ensures) c.in_ok-form_refusal.ensures refl _ (found_are (terms_in c.args.released (option_copied c.args.table)) _ _ _ (files_ok (terms_in c.args.released (option_copied c.args.table)) _ _ c.requires) right_form c.pair_count-count.ensures.value c.shares_of-found.ensures) c.rests.ensures (ap not c.if-not-rests.false) (search (rules, c.shares_of-found.type_inv)) c.fill.ensures _ c.in_ok-answer.ensures in
    record { value = q.0; shares_after = q.1 }
