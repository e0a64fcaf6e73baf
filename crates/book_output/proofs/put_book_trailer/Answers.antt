-- `book_output::put_book_trailer` meets its contract.
use Rattle.book_output.proofs.Placing.{book_trailer_placed}
use borrow.Author.Rules.{rules}
use Rattle.book_output.proofs.put_book_trailer.Goals as goal

pub returns : goal.returns
returns c = book_trailer_placed _ _ _ _ c.requires c.put.ensures c.put-2.ensures c.put-3.ensures c.put_bytes.ensures
