-- `released_set::set_refusal` meets its contract.
use mathlib.Core.Path.{sym}
use borrow.Author.Tests.{not-true, not-false}
use Rattle.released_set.proofs.Refusing.{unlimited_refusal, none_refused, past_refused, set_serves}
use Rattle.released_set.proofs.set_refusal.Goals as goal

pub returns-then-not-set : goal.returns-then-not-set
returns-then-not-set c = sym (unlimited_refusal c.args.set _ (not-true _ c.if-not-set.true))

pub returns-then-count-eq0 : goal.returns-then-count-eq0
returns-then-count-eq0 c = none_refused c.args.set _ (not-false _ c.if-not-set.false) c.count.ensures c.if-count-eq0.true

pub returns-then-count-ne0 : goal.returns-then-count-ne0
returns-then-count-ne0 c = past_refused c.args.set _ (not-false _ c.if-not-set.false) c.count-2.ensures c.if-count-ne0.true

pub returns : goal.returns
returns c = set_serves c.args.set _ (not-false _ c.if-not-set.false) c.count.ensures c.if-count-eq0.false c.count-2.ensures c.if-count-ne0.false
