-- `test_card_cases::inputs::put_fleet` meets its contract.
use borrow.Author.Tests.{eq-eqb, ne_eqb}
use Rattle.files.specs.Bytes.{number_bytes}
use Rattle.test_tables.specs.Tables.{before, digits_after, field, fields}
use Rattle.test_card_cases.specs.Inputs.{pairs_of_bytes}
use Rattle.test_card_cases.proofs.inputs.put_fleet.Goals as goal

pub returns-then-kind-eq0 : goal.returns-then-kind-eq0
unfolding before digits_after field fields number_bytes pairs_of_bytes
returns-then-kind-eq0 c = rw (← c.field-kind.ensures, eq-eqb _ _ c.if-kind-eq0.true) c.put_file.ensures

pub returns-then-kind-eq1 : goal.returns-then-kind-eq1
unfolding before digits_after field fields number_bytes pairs_of_bytes
returns-then-kind-eq1 c = rw (← c.field-kind.ensures, ne_eqb _ _ c.if-kind-eq0.false, eq-eqb _ _ c.if-kind-eq1.true) c.put_file-then-kind-eq1.ensures

pub returns-then-kind-eq2 : goal.returns-then-kind-eq2
unfolding before digits_after field fields number_bytes pairs_of_bytes
returns-then-kind-eq2 c = rw (← c.field-kind.ensures, ne_eqb _ _ c.if-kind-eq0.false, ne_eqb _ _ c.if-kind-eq1.false, eq-eqb _ _ c.if-kind-eq2.true) c.put_file-then-kind-eq2.ensures

pub returns : goal.returns
unfolding before digits_after field fields number_bytes pairs_of_bytes
returns c = rw (← c.field-kind.ensures, ne_eqb _ _ c.if-kind-eq0.false, ne_eqb _ _ c.if-kind-eq1.false, ne_eqb _ _ c.if-kind-eq2.false) c.put_file-2.ensures
