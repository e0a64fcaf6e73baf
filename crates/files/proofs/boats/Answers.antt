-- `files::boats` meets its contract: the boats stand 8 bytes before the end.
use borrow.Author.Rules.{rules}
use Rattle.files.proofs.Fields.{boats_at}
use Rattle.files.proofs.boats.Goals as goal

pub returns : goal.returns
returns c = search (rules, boats_at)
