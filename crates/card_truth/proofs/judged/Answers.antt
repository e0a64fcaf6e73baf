-- `card_truth::judged` meets its contract.
use Rattle.std.specs.Prelude.{option_copied}
use mathlib.Core.Path.{◌∙◌}
use native.Mathlib.Omega.{arith}
use Rattle.method.specs.Calls.{schedule_in, terms}
use Rattle.method.proofs.Schedules.{schedule_sized}
use Rattle.iteration.proofs.States.{sheet_fits}
use Rattle.card_truth.proofs.Judging.{few_boats, few_steps, total_refused, steps_asked, total_asked, numbers_refused, tolerance_refused, judged_true}
use mathlib.Core.Path.{ap}
use mathlib.Core.Bool.{not}
use Rattle.card_truth.proofs.judged.Goals as goal

pub shares_total-requires : goal.shares_total-requires
shares_total-requires c = record { in_bounds = (c.requires.card_readable.long, few_boats _ _ _ c.requires.sheet_value (terms (option_copied c.args.table)) (schedule_sized (schedule_in (option_copied c.args.table)) c.requires.table_value) c.requires.layout_value c.requires.card_readable c.args.shares); card_bound = few_steps _ _ _ c.requires.sheet_value (terms (option_copied c.args.table)) (schedule_sized (schedule_in (option_copied c.args.table)) c.requires.table_value) c.requires.layout_value c.requires.card_readable c.args.shares }

pub returns-then-not-shares_total : goal.returns-then-not-shares_total
returns-then-not-shares_total c = total_refused _ _ _ c.requires.sheet_value (terms (option_copied c.args.table)) (schedule_sized (schedule_in (option_copied c.args.table)) c.requires.table_value) c.requires.layout_value c.requires.card_readable c.args.shares _ c.shares_total.ensures (ap not c.if-not-shares_total.true)

pub test_of-requires : goal.test_of-requires
test_of-requires c = c.requires.card_readable.long

pub steps_used-requires : goal.steps_used-requires
steps_used-requires c = c.requires.card_readable.long

pub answer_of-answer-requires : goal.answer_of-answer-requires
answer_of-answer-requires c = record { sheet_value = c.requires.sheet_value; table_value = c.requires.table_value; fact = steps_asked _ _ _ c.requires.sheet_value (terms (option_copied c.args.table)) (schedule_sized (schedule_in (option_copied c.args.table)) c.requires.table_value) c.requires.layout_value c.requires.card_readable c.args.shares _ c.shares_total.ensures (ap not c.if-not-shares_total.false) c.steps_used.ensures.value; shares_value = total_asked _ _ _ c.requires.sheet_value (terms (option_copied c.args.table)) (schedule_sized (schedule_in (option_copied c.args.table)) c.requires.table_value) c.requires.layout_value c.requires.card_readable c.args.shares _ c.shares_total.ensures (ap not c.if-not-shares_total.false) c.steps_used.ensures.value }

pub steps-requires : goal.steps-requires
steps-requires c = (sheet_fits _ _ c.requires.sheet_value).at_least

pub numbers_agree-requires : goal.numbers_agree-requires
numbers_agree-requires c = c.requires.card_readable.long

pub returns-then-not-numbers_agree : goal.returns-then-not-numbers_agree
returns-then-not-numbers_agree c = numbers_refused _ _ _ c.requires.sheet_value (terms (option_copied c.args.table)) (schedule_sized (schedule_in (option_copied c.args.table)) c.requires.table_value) c.requires.layout_value c.requires.card_readable c.args.shares _ c.shares_total.ensures (ap not c.if-not-shares_total.false) c.steps_used.ensures.value c.test_of.ensures c.answer_of-answer.ensures (c.steps-steps.ensures ∙ rw c.steps.ensures) _ c.numbers_agree.ensures (ap not c.if-not-numbers_agree.true)

pub overflow_sub-card : goal.overflow_sub-card
overflow_sub-card c = omega (arith, c.requires.card_readable.long)

pub u32_at-requires : goal.u32_at-requires
u32_at-requires c = omega (arith, c.requires.card_readable.long)

pub tolerance-requires : goal.tolerance-requires
tolerance-requires c = (sheet_fits _ _ c.requires.sheet_value).at_least

pub returns-then-u32_at-tolerance : goal.returns-then-u32_at-tolerance
returns-then-u32_at-tolerance c = tolerance_refused _ _ _ c.requires.sheet_value (terms (option_copied c.args.table)) (schedule_sized (schedule_in (option_copied c.args.table)) c.requires.table_value) c.requires.layout_value c.requires.card_readable c.args.shares _ c.shares_total.ensures (ap not c.if-not-shares_total.false) c.steps_used.ensures.value c.test_of.ensures c.answer_of-answer.ensures (c.steps-steps.ensures ∙ rw c.steps.ensures) _ c.numbers_agree.ensures (ap not c.if-not-numbers_agree.false) c.u32_at.ensures c.tolerance.ensures c.if-u32_at-tolerance.true

pub returns : goal.returns
returns c = judged_true _ _ _ c.requires.sheet_value (terms (option_copied c.args.table)) (schedule_sized (schedule_in (option_copied c.args.table)) c.requires.table_value) c.requires.layout_value c.requires.card_readable c.args.shares _ c.shares_total.ensures (ap not c.if-not-shares_total.false) c.steps_used.ensures.value c.test_of.ensures c.answer_of-answer.ensures (c.steps-steps.ensures ∙ rw c.steps.ensures) _ c.numbers_agree.ensures (ap not c.if-not-numbers_agree.false) c.u32_at.ensures c.tolerance.ensures c.if-u32_at-tolerance.false
