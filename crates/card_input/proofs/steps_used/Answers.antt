-- `card_input::steps_used` meets its contract.
use Rattle.card_input.proofs.Reading.{steps_at}
use borrow.Author.Rules.{rules}
use Rattle.card_input.proofs.steps_used.Goals as goal

pub returns : goal.returns
returns c = search (rules, steps_at)
