-- `edition_text::factor_line` meets its contract.
use native.Mathlib.Omega.{arith}
use Rattle.files.proofs.Accepted.{sheet_passed}
use Rattle.factors.proofs.Factors.{second_edition}
use Rattle.edition_text.proofs.Telling.{factor_inside, factor_few, factor_told}
use Rattle.edition_text.proofs.factor_line.Goals as goal

pub factors_of-list-requires : goal.factors_of-list-requires
factors_of-list-requires c =
    let p = (sheet_passed 1 64 _ c.requires.sheet_value).fits.whole in
    (p, second_edition _ p c.requires.sheet_value_2)

pub overflow_add-k : goal.overflow_add-k
overflow_add-k c = omega (arith, factor_few _ c.factors_of-list.ensures c.first_other-k.ensures c.requires.sheet_value c.requires.sheet_value_2)

pub bounds-list-k : goal.bounds-list-k
bounds-list-k c = factor_inside _ c.factors_of-list.ensures c.first_other-k.ensures c.requires.sheet_value_2

pub overflow_cast-list : goal.overflow_cast-list
overflow_cast-list c = omega (arith, c.shared_slice_known-2-1.given c.first_other-k.result)

pub returns : goal.returns
returns c =
    factor_told _ c.factors_of-list.ensures c.first_other-k.ensures c.empty.ensures c.with_bytes-begun.ensures c.with_number-column.ensures.adds
    c.with_bytes-told.ensures c.with_number-factor.ensures.adds c.with_bytes-whole.ensures c.with_bytes.ensures
