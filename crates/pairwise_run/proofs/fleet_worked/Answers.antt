-- `pairwise_run::fleet_worked` meets its contract: the laws of `Fleet` say what the run, the moves and the answer come to.
use mathlib.Core.Path.{refl}
use Rattle.method.specs.Problem.{plain_terms}
use Rattle.iteration.proofs.States.{book_fits}
use Rattle.pairwise_run.proofs.Fleet.{refused_result, number_is, total, answer_steps, answer_total, finished}
use Rattle.pairwise_run.proofs.fleet_worked.Goals as goal

pub run-run-requires : goal.run-run-requires
run-run-requires c = record { sheet_value = c.requires; table_value = refl; book_in_bounds = (book_fits _ _ c.requires).most_boats }

pub returns-in_err-spent_refusal : goal.returns-in_err-spent_refusal
returns-in_err-spent_refusal c =
    refused_result plain_terms _ _ _ _ _ c.from_residual.ensures
    (number_is _ _ c.requires c.run-run.ensures.value _ c.run-run.ensures.shares_after _ c.verdict_number.ensures c.in_err-spent_refusal.ensures)

pub moves_of-moved-requires : goal.moves_of-moved-requires
moves_of-moved-requires c = record { sheet_value = c.requires; shares_value = total _ _ c.requires c.run-run.ensures.value _ c.run-run.ensures.shares_after _ c.verdict_number.ensures c.in_ok-spent_refusal.ensures refl }

pub answer_of-result-requires : goal.answer_of-result-requires
answer_of-result-requires c = record { sheet_value = c.requires; table_value = refl; fact = answer_steps _ _ c.requires c.run-run.ensures.value _ c.run-run.ensures.shares_after _ c.verdict_number.ensures c.in_ok-spent_refusal.ensures refl c.moves_of-moved.ensures; shares_value = answer_total _ _ c.requires c.run-run.ensures.value _ c.run-run.ensures.shares_after _ c.verdict_number.ensures c.in_ok-spent_refusal.ensures refl c.moves_of-moved.ensures }

pub returns : goal.returns
returns c = finished _ _ c.requires c.run-run.ensures.value _ c.run-run.ensures.shares_after _ c.verdict_number.ensures c.in_ok-spent_refusal.ensures refl c.moves_of-moved.ensures c.answer_of-result.ensures
