-- `queue_rounds::due` meets its contract.
use mathlib.Core.Path.{refl}
use native.Mathlib.Omega.{arith}
use borrow.Author.Tests.{lt-ltb, le-ltb}
use Rattle.queue_rounds.proofs.due.Goals as goal

pub returns-then-left-eq0 : goal.returns-then-left-eq0
returns-then-left-eq0 c = rw (le-ltb 0 c.args.q.left (omega arith)) refl

pub returns : goal.returns
returns c = rw (lt-ltb 0 c.args.q.left (omega (arith, c.if-left-eq0.false))) refl
