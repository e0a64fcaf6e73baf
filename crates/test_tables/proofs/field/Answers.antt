-- `test_tables::field` meets its contract.
use borrow.Author.Tests.{eq-eqb, ne_eqb}
use Rattle.test_tables.specs.Tables.{field}
use Rattle.test_tables.proofs.field.Goals as goal

pub returns-then-digits-eq0 : goal.returns-then-digits-eq0
unfolding field
returns-then-digits-eq0 c = rw (← c.word-digits.ensures, eq-eqb _ _ c.if-digits-eq0.true)

pub returns : goal.returns
unfolding field
returns c = rw (← c.word-digits.ensures, ne_eqb _ _ c.if-digits-eq0.false) c.number.ensures
