-- `other_edition::other_size` meets its contract.
use native.Mathlib.Omega.{arith}
use Rattle.other_edition.proofs.Putting.{fits, size_1, size_2}
use Rattle.other_edition.proofs.other_size.Goals as goal

pub sheet_columns-columns-requires : goal.sheet_columns-columns-requires
sheet_columns-columns-requires c = (fits _ c.requires.convertible).fits.at_least

pub overflow_sub-result : goal.overflow_sub-result
overflow_sub-result c = omega (arith, c.sheet_columns-columns.ensures.value, (fits _ c.requires.convertible).fits.whole)

pub returns-then-number-eq1 : goal.returns-then-number-eq1
returns-then-number-eq1 c = size_1 _ c.requires.convertible c.requires.number_value c.sheet_columns-columns.ensures.value c.if-number-eq1.true

pub returns : goal.returns
returns c = size_2 _ c.requires.convertible c.requires.number_value c.sheet_columns-columns.ensures.value c.if-number-eq1.false
