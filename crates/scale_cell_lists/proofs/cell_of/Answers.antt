-- `scale_cell_lists::cell_of` meets its contract.
use borrow.Author.Tests.{eq-eqb, ne_eqb}
use Rattle.scale_cell_lists.specs.Lists.{cell_of}
use Rattle.scale_cell_lists.proofs.cell_of.Goals as goal

pub returns-then-kind-eq1 : goal.returns-then-kind-eq1
unfolding cell_of
returns-then-kind-eq1 c = rw (eq-eqb _ 1 c.if-kind-eq1.true)

pub returns-then-kind-eq2 : goal.returns-then-kind-eq2
unfolding cell_of
returns-then-kind-eq2 c = rw (ne_eqb _ 1 c.if-kind-eq1.false, eq-eqb _ 2 c.if-kind-eq2.true)

pub returns : goal.returns
unfolding cell_of
returns c = rw (ne_eqb _ 1 c.if-kind-eq1.false, ne_eqb _ 2 c.if-kind-eq2.false)
