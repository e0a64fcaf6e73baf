-- `arguments::is_figure` meets its contract: each test decides.
use borrow.Author.Tests.{le-leb, lt-leb}
use Rattle.arguments.specs.Numbers.{is_figure}
use Rattle.arguments.proofs.is_figure.Goals as goal

pub returns-then-byte-lt48 : goal.returns-then-byte-lt48
unfolding is_figure
returns-then-byte-lt48 c = simp (lt-leb _ _ c.if-byte-lt48.true)

pub returns : goal.returns
unfolding is_figure
returns c = simp (le-leb _ _ c.if-byte-lt48.false)
