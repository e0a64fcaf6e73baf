-- `files::columns` meets its contract: the columns stand 6 bytes before the end.
use borrow.Author.Rules.{rules}
use Rattle.files.proofs.Fields.{columns_at}
use Rattle.files.proofs.columns.Goals as goal

pub returns : goal.returns
returns c = search (rules, columns_at)
