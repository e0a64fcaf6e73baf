-- `exported_queue::with_length` meets its contract.
use borrow.Author.Tests.{lt-ltb, le-ltb}
use Rattle.exported_queue.proofs.with_length.Goals as goal

pub returns-then-k-lt16 : goal.returns-then-k-lt16
returns-then-k-lt16 c = simp (lt-ltb _ _ c.if-k-lt16.true)

pub returns-else-k-lt16 : goal.returns-else-k-lt16
returns-else-k-lt16 c = simp (le-ltb _ _ c.if-k-lt16.false)
