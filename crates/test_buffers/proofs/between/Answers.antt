-- `test_buffers::between` meets its contract.
use borrow.Author.Tests.{le-leb, lt-leb}
use Rattle.test_buffers.specs.Buffers.{part}
use Rattle.test_buffers.proofs.between.Goals as goal

pub returns-then-end-start : goal.returns-then-end-start
unfolding part
returns-then-end-start c = simp (lt-leb _ _ c.if-end-start.true)

pub returns-then-buffer-end : goal.returns-then-buffer-end
unfolding part
returns-then-buffer-end c = simp (le-leb _ _ c.if-end-start.false, lt-leb _ _ c.if-buffer-end.true)

pub returns : goal.returns
unfolding part
returns c = simp (le-leb _ _ c.if-end-start.false, le-leb _ _ c.if-buffer-end.false)
