-- `card_output::put_trailer` meets its contract.
use Rattle.card_output.proofs.Placing.{trailer_placed}
use borrow.Author.Rules.{rules}
use Rattle.card_output.proofs.put_trailer.Goals as goal

pub returns : goal.returns
returns c = search (rules, trailer_placed)
