-- `equal_bytes::is_same` meets its contract, as the library's `==` compares.
use borrow.Author.Rules.{rules}
use Rattle.files.proofs.Letters.{pointwise_same}
use Rattle.equal_bytes.proofs.is_same.Goals as goal

pub returns : goal.returns
returns c = search (rules, pointwise_same)
