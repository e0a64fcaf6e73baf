-- `message_parts::shown` meets its contract.
use borrow.Author.Tests.{lt-ltb, le-ltb}
use Rattle.message_parts.proofs.shown.Goals as goal

pub returns-then-b-lt32 : goal.returns-then-b-lt32
returns-then-b-lt32 c = simp (lt-ltb _ _ c.if-b-lt32.true)

pub returns-else-b-lt32 : goal.returns-else-b-lt32
returns-else-b-lt32 c = simp (le-ltb _ _ c.if-b-lt32.false)
