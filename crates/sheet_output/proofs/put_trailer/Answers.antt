-- `sheet_output::put_trailer` meets its contract.
use Rattle.sheet_output.proofs.Placing.{sheet_trailer_placed}
use borrow.Author.Rules.{rules}
use Rattle.sheet_output.proofs.put_trailer.Goals as goal

pub returns : goal.returns
returns c = sheet_trailer_placed _ _ _ _ _ _ (search rules) c.requires c.put.ensures c.put-2.ensures c.put-3.ensures c.put-4.ensures c.put_bytes.ensures
