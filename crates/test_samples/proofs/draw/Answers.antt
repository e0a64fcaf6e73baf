-- `test_samples::draw` meets its contract.
use borrow.Author.Tests.{eq-eqb, ne_eqb}
use Rattle.test_samples.proofs.draw.Goals as goal

pub returns-then-n-eq0 : goal.returns-then-n-eq0
returns-then-n-eq0 c = record { value = rw (eq-eqb _ _ c.if-n-eq0.true); seed_after = c.advance.ensures }

pub returns : goal.returns
returns c = record { value = rw (ne_eqb _ _ c.if-n-eq0.false, c.advance.ensures); seed_after = c.advance.ensures }
