-- `sheet_turn::turn` meets its contract.
use native.Mathlib.Omega.{arith}
use Rattle.files.proofs.Accepted.{files_accepted}
use Rattle.sheet_turn.proofs.Records.{few_steps, record_answerable, record_right}
use Rattle.sheet_turn.proofs.turn.Goals as goal

pub stepped-next-requires : goal.stepped-next-requires
stepped-next-requires c = record { sheet_value = c.requires.sheet_value; holds = c.requires.holds; steps_bound = few_steps _ _ c.requires.sheet_value _ c.requires.steps_bound; turn_shares = c.requires.turn_shares; turn_scores = c.requires.turn_scores }

pub answer-answer-requires : goal.answer-answer-requires
answer-answer-requires c = record_answerable _ _ c.requires.sheet_value _ c.requires.steps_bound c.stepped-next.ensures.holds_2

pub steps-asked-requires : goal.steps-asked-requires
steps-asked-requires c = (files_accepted _ _ c.requires.sheet_value).1.at_least

pub overflow_cast-record : goal.overflow_cast-record
overflow_cast-record c = record { fits = omega (arith, (files_accepted _ _ c.requires.sheet_value).1.at_most) }

pub returns : goal.returns
returns c = record { holds_2 = c.stepped-next.ensures.holds_2; record_value = record_right _ _ c.requires.sheet_value _ c.requires.steps_bound c.stepped-next.ensures.holds_2 c.answer-answer.ensures c.steps-asked.ensures c.stops.ensures c.verdict_number.ensures; shares_after = c.stepped-next.ensures.shares_after; turn_scores_2 = c.stepped-next.ensures.turn_scores_2 }
