-- `file_parts::is_between` meets its contract.
use borrow.Author.Tests.{le-leb, lt-leb}
use Rattle.files.specs.Bytes.{between}
use Rattle.file_parts.proofs.is_between.Goals as goal

pub returns-then-x-least : goal.returns-then-x-least
unfolding between
returns-then-x-least c = simp (lt-leb _ _ c.if-x-least.true)

pub returns : goal.returns
unfolding between
returns c = simp (le-leb _ _ c.if-x-least.false)
