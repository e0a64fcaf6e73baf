-- `paths::temporary_path` meets its contract.
use borrow.Author.Rules.{rules}
use Rattle.paths.specs.Paths.{temporary_path}
use Rattle.paths.proofs.temporary_path.Goals as goal

pub returns : goal.returns
unfolding temporary_path
returns c = c.joined.ensures
