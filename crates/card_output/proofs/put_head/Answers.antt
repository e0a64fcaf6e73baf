-- `card_output::put_head` meets its contract.
use Rattle.card_output.proofs.Placing.{head_placed}
use borrow.Author.Rules.{rules}
use Rattle.card_output.proofs.put_head.Goals as goal

pub returns : goal.returns
returns c = search (rules, head_placed)
