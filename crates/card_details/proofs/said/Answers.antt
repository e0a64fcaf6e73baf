-- `card_details::said` meets its contract.
use Rattle.card_details.proofs.Lines.{said_told}
use borrow.Author.Rules.{rules}
use Rattle.card_details.proofs.said.Goals as goal

pub returns : goal.returns
returns c = search (rules, said_told)
