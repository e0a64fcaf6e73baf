-- `validation::sheet_refusal_in` meets its contract: a law of `Refusal` for each return. The passed tests bound what the calls require.
use mathlib.Core.Path.{ap, refl}
use mathlib.Core.Bool.{not}
use borrow.Author.Rules.{rules}
use Rattle.files.proofs.Accepted.{body_whole}
use Rattle.files.proofs.Refusal.{at_least, sheet_length_out, sheet_letters_differ, columns_differ, steps_out, tolerance_out, body_refused, factors_out, factors_in}
use Rattle.refusals.proofs.Numbers.{positive, passed_on}
use Rattle.refusals.specs.Numbers.{number}
use Rattle.validation.proofs.sheet_refusal_in.Goals as goal

pub returns-then-not-is_between : goal.returns-then-not-is_between
returns-then-not-is_between c = sheet_length_out _ _ _ _ c.is_between.ensures (ap not c.if-not-is_between.true)

pub is_lettered-requires : goal.is_lettered-requires
is_lettered-requires c = search (rules, at_least)

pub returns-then-not-is_lettered : goal.returns-then-not-is_lettered
returns-then-not-is_lettered c = sheet_letters_differ _ _ _ _ c.is_between.ensures (ap not c.if-not-is_between.false) _ c.is_lettered.ensures (ap not c.if-not-is_lettered.true)

pub sheet_columns-columns-requires : goal.sheet_columns-columns-requires
sheet_columns-columns-requires c = search (rules, at_least)

pub returns-then-not-is_between-2 : goal.returns-then-not-is_between-2
returns-then-not-is_between-2 c = columns_differ _ _ _ _ c.is_between.ensures (ap not c.if-not-is_between.false) _ c.is_lettered.ensures (ap not c.if-not-is_lettered.false) _ c.sheet_columns-columns.ensures.value _ c.is_between-2.ensures (ap not c.if-not-is_between-2.true)

pub steps-requires : goal.steps-requires
steps-requires c = search (rules, at_least)

pub returns-then-not-is_between-3 : goal.returns-then-not-is_between-3
returns-then-not-is_between-3 c = steps_out _ _ _ _ c.is_between.ensures (ap not c.if-not-is_between.false) _ c.is_lettered.ensures (ap not c.if-not-is_lettered.false) _ c.sheet_columns-columns.ensures.value _ c.is_between-2.ensures (ap not c.if-not-is_between-2.false) _ c.steps.ensures _ c.is_between-3.ensures (ap not c.if-not-is_between-3.true)

pub tolerance-requires : goal.tolerance-requires
tolerance-requires c = search (rules, at_least)

pub returns-then-tolerance-gt1024000000 : goal.returns-then-tolerance-gt1024000000
returns-then-tolerance-gt1024000000 c = tolerance_out _ _ _ _ c.is_between.ensures (ap not c.if-not-is_between.false) _ c.is_lettered.ensures (ap not c.if-not-is_lettered.false) _ c.sheet_columns-columns.ensures.value _ c.is_between-2.ensures (ap not c.if-not-is_between-2.false) _ c.steps.ensures _ c.is_between-3.ensures (ap not c.if-not-is_between-3.false) _ c.tolerance.ensures c.if-tolerance-gt1024000000.true

pub sheet_back-back-requires : goal.sheet_back-back-requires
sheet_back-back-requires c = search (rules, at_least)

pub body_refusal-requires : goal.body_refusal-requires
body_refusal-requires c = (search rules, search (rules, at_least), search rules)

pub returns-in_err-body_refusal : goal.returns-in_err-body_refusal
returns-in_err-body_refusal c = passed_on _ _ c.from_residual.ensures (body_refused _ _ _ _ c.is_between.ensures (ap not c.if-not-is_between.false) _ c.is_lettered.ensures (ap not c.if-not-is_lettered.false) _ c.sheet_columns-columns.ensures.value _ c.is_between-2.ensures (ap not c.if-not-is_between-2.false) _ c.steps.ensures _ c.is_between-3.ensures (ap not c.if-not-is_between-3.false) _ c.tolerance.ensures c.if-tolerance-gt1024000000.false _ c.sheet_back-back.ensures _ (c.in_err-body_refusal.ensures number) (positive _))

pub factor_total-requires : goal.factor_total-requires
factor_total-requires c = body_whole _ _ (search (rules, at_least)) c.sheet_back-back.ensures (c.in_ok-body_refusal.ensures number) refl

pub returns-then-not-is_between-4 : goal.returns-then-not-is_between-4
returns-then-not-is_between-4 c = factors_out _ _ _ _ c.is_between.ensures (ap not c.if-not-is_between.false) _ c.is_lettered.ensures (ap not c.if-not-is_lettered.false) _ c.sheet_columns-columns.ensures.value _ c.is_between-2.ensures (ap not c.if-not-is_between-2.false) _ c.steps.ensures _ c.is_between-3.ensures (ap not c.if-not-is_between-3.false) _ c.tolerance.ensures c.if-tolerance-gt1024000000.false _ c.sheet_back-back.ensures _ (c.in_ok-body_refusal.ensures number) refl _ c.factor_total.ensures _ c.is_between-4.ensures (ap not c.if-not-is_between-4.true)

pub returns : goal.returns
returns c = factors_in _ _ _ _ c.is_between.ensures (ap not c.if-not-is_between.false) _ c.is_lettered.ensures (ap not c.if-not-is_lettered.false) _ c.sheet_columns-columns.ensures.value _ c.is_between-2.ensures (ap not c.if-not-is_between-2.false) _ c.steps.ensures _ c.is_between-3.ensures (ap not c.if-not-is_between-3.false) _ c.tolerance.ensures c.if-tolerance-gt1024000000.false _ c.sheet_back-back.ensures _ (c.in_ok-body_refusal.ensures number) refl _ c.factor_total.ensures _ c.is_between-4.ensures (ap not c.if-not-is_between-4.false)
