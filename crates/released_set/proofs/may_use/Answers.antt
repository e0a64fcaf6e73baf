-- `released_set::may_use` meets its contract.
use borrow.Author.Tests.{not-true, not-false}
use Rattle.method.specs.ReleasedBoats.{may_use}
use Rattle.released_set.proofs.may_use.Goals as goal

pub returns-then-not-set : goal.returns-then-not-set
unfolding may_use
returns-then-not-set c = rw (not-true c.args.set.limited c.if-not-set.true)

pub returns : goal.returns
unfolding may_use
returns c = rw (not-false c.args.set.limited c.if-not-set.false)
