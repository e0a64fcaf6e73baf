-- `card_details::steps_line` meets its contract.
use Rattle.card_details.proofs.Lines.{steps_told, verdict_told}
use borrow.Author.Rules.{rules}
use Rattle.card_details.proofs.steps_line.Goals as goal

pub returns-then-is_between : goal.returns-then-is_between
returns-then-is_between c = search (rules, steps_told)

pub returns : goal.returns
returns c = search (rules, verdict_told)
