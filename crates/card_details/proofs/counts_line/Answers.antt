-- `card_details::counts_line` meets its contract.
use Rattle.card_details.proofs.Lines.{columns_told, boats_told}
use borrow.Author.Rules.{rules}
use Rattle.card_details.proofs.counts_line.Goals as goal

pub returns-then-own-boats : goal.returns-then-own-boats
returns-then-own-boats c = search (rules, columns_told)

pub returns : goal.returns
returns c = search (rules, boats_told)
