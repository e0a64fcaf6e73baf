-- `files::sheet_columns` meets its contract: the columns stand 12 bytes before the end.
use borrow.Author.Rules.{rules}
use Rattle.files.proofs.Fields.{sheet_columns_at}
use Rattle.files.proofs.sheet_columns.Goals as goal

pub returns : goal.returns
returns c = search (rules, sheet_columns_at)
