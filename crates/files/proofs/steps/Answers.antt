-- `files::steps` meets its contract: the steps stand 10 bytes before the end.
use borrow.Author.Rules.{rules}
use Rattle.files.proofs.Fields.{steps_at}
use Rattle.files.proofs.steps.Goals as goal

pub returns : goal.returns
returns c = search (rules, steps_at)
