-- `verdicts::verdict_number` meets its contract.
use Rattle.method.specs.Answers.{verdict_number}
use borrow.Author.Rules.{rules}
use Rattle.verdicts.proofs.verdict_number.Goals as goal

pub returns-in-Within : goal.returns-in-Within
unfolding verdict_number
returns-in-Within c = search rules

pub returns-in-Beyond : goal.returns-in-Beyond
unfolding verdict_number
returns-in-Beyond c = search rules

pub returns-in-Spent : goal.returns-in-Spent
unfolding verdict_number
returns-in-Spent c = search rules
