-- `mixture_answer::answer_of` meets its contract.
use Rattle.std.specs.Prelude.{option_copied}
use mathlib.Core.Path.{◌∙◌}
use native.Mathlib.Nat.{le_trans}
use Rattle.files.specs.Limits.{step_limit}
use Rattle.method.specs.Calls.{schedule_in}
use Rattle.method.proofs.Schedules.{schedule_sized}
use Rattle.mixture_answer.proofs.Answering.{all_rows, few_shares, entries, measurable, answered}
use borrow.Author.Rules.{rules}
use Rattle.mixture_answer.proofs.answer_of.Goals as goal

pub residual_of-r-requires : goal.residual_of-r-requires
residual_of-r-requires c =
    let S = schedule_sized (schedule_in (option_copied c.args.table)) c.requires.table_value in
    let few = le_trans c.requires.fact.1 (S.most_steps step_limit) in
    record { sheet_value = c.requires.sheet_value; layout_value = c.requires.layout_value; shares_bound = few_shares _ _ c.requires.sheet_value S c.requires.layout_value c.args.shares c.requires.fact.0 few c.requires.shares_value }

pub least_score-least-requires : goal.least_score-least-requires
least_score-least-requires c =
    let S = schedule_sized (schedule_in (option_copied c.args.table)) c.requires.table_value in
    let few = le_trans c.requires.fact.1 (S.most_steps step_limit) in
    record { grid = all_rows _ _ c.requires.sheet_value c.requires.layout_value; bounded = entries _ _ c.requires.sheet_value S c.requires.layout_value c.args.shares c.requires.fact.0 few c.requires.shares_value (search rules) c.residual_of-r.result (search rules) c.residual_of-r.ensures }

pub total-requires : goal.total-requires
total-requires c = c.requires.fact.1

pub measured-requires : goal.measured-requires
measured-requires c =
    let S = schedule_sized (schedule_in (option_copied c.args.table)) c.requires.table_value in
    let few = le_trans c.requires.fact.1 (S.most_steps step_limit) in
    rw c.total.ensures
    (measurable _ _ c.requires.sheet_value S c.requires.layout_value c.args.shares c.requires.fact.0 few c.requires.shares_value (search (rules, c.well_formed.1.1.1.1.1.1.0)) c.residual_of-r.result (search rules) c.residual_of-r.ensures c.least_score-least.ensures)

pub returns : goal.returns
returns c =
    let S = schedule_sized (schedule_in (option_copied c.args.table)) c.requires.table_value in
    let few = le_trans c.requires.fact.1 (S.most_steps step_limit) in
    answered _ _ c.requires.sheet_value S c.requires.layout_value c.args.shares c.requires.fact.0 few c.requires.shares_value (search (rules, c.well_formed.1.1.1.1.1.1.0)) c.residual_of-r.result (search rules) c.residual_of-r.ensures c.least_score-least.ensures c.args.test
    (c.measured.ensures ∙ rw c.total.ensures)
