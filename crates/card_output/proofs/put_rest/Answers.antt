-- `card_output::put_rest` meets its contract.
use Rattle.card_output.proofs.Placing.{rest_placed}
use borrow.Author.Rules.{rules}
use Rattle.card_output.proofs.put_rest.Goals as goal

pub returns : goal.returns
returns c = rest_placed _ _ _ _ _ _ c.requires c.put.ensures c.put-2.ensures c.put-3.ensures c.put-4.ensures c.put_bytes.ensures
