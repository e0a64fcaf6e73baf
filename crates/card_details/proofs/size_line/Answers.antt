-- `card_details::size_line` meets its contract.
use Rattle.card_details.proofs.Lines.{size_short, size_long}
use borrow.Author.Rules.{rules}
use Rattle.card_details.proofs.size_line.Goals as goal

pub returns-then-card-lt36 : goal.returns-then-card-lt36
returns-then-card-lt36 c = search (rules, size_short)

pub returns : goal.returns
returns c = search (rules, size_long)
