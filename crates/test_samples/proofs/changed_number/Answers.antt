-- `test_samples::changed_number` meets its contract.
use borrow.Author.Tests.{eq-eqb, ne_eqb}
use Rattle.test_samples.proofs.changed_number.Goals as goal

pub returns-then-kind-eq2 : goal.returns-then-kind-eq2
returns-then-kind-eq2 c = rw (eq-eqb _ _ c.if-kind-eq2.true)

pub returns-then-kind-eq3 : goal.returns-then-kind-eq3
returns-then-kind-eq3 c = rw (ne_eqb _ _ c.if-kind-eq2.false, eq-eqb _ _ c.if-kind-eq3.true)

pub returns : goal.returns
returns c = rw (ne_eqb _ _ c.if-kind-eq2.false, ne_eqb _ _ c.if-kind-eq3.false)
