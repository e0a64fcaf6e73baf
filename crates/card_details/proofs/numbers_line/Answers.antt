-- `card_details::numbers_line` meets its contract.
use Rattle.files.proofs.Accepted.{files_accepted}
use Rattle.card_details.proofs.Lines.{answer_asked, answer_told}
use Rattle.card_details.proofs.numbers_line.Goals as goal

pub answer_of-answer-requires : goal.answer_of-answer-requires
answer_of-answer-requires c =
    let q = answer_asked _ _ _ c.args.shares c.requires.shares_value c.steps_used.ensures.value c.requires.sheet_value c.requires.card_readable c.requires.card_value in
    record { sheet_value = q.0; table_value = q.1.0; fact = q.1.1.0; shares_value = q.1.1.1 }

pub answer_line-requires : goal.answer_line-requires
answer_line-requires c = ((files_accepted _ _ c.requires.sheet_value).1.at_least, c.requires.card_readable.long)

pub returns : goal.returns
returns c = answer_told _ _ _ c.args.shares c.requires.shares_value c.steps_used.ensures.value _ c.test_of.ensures c.answer_of-answer.ensures c.answer_line.ensures
