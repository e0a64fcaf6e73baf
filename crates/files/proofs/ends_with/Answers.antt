-- `files::ends_with` meets its contract, as the library's `ends_with` compares.
use borrow.Author.Rules.{rules}
use Rattle.files.proofs.Letters.{pointwise_turned}
use Rattle.files.proofs.ends_with.Goals as goal

pub returns : goal.returns
returns c = search (rules, pointwise_turned)
