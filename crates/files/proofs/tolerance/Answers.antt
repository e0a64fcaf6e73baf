-- `files::tolerance` meets its contract: the tolerance stands 8 bytes before the end.
use borrow.Author.Rules.{rules}
use Rattle.files.proofs.Fields.{tolerance_at}
use Rattle.files.proofs.tolerance.Goals as goal

pub returns : goal.returns
returns c = search (rules, tolerance_at)
