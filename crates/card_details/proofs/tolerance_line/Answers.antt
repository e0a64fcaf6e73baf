-- `card_details::tolerance_line` meets its contract.
use Rattle.card_details.proofs.Lines.{tolerance_told}
use borrow.Author.Rules.{rules}
use Rattle.card_details.proofs.tolerance_line.Goals as goal

pub returns : goal.returns
returns c = search (rules, tolerance_told)
