-- `scale_conversion::sheet_values` meets its contract.
use mathlib.Core.Path.{refl}
use borrow.Author.Rules.{rules}
use native.Mathlib.Omega.{arith}
use Rattle.std.proofs.lemmas.Result.{err_from_is_err_and}
use Rattle.refusals.proofs.Numbers.{positive}
use Rattle.scale_conversion.proofs.Entry.{book_refuses, book_passes, book_fits}
use Rattle.scale_conversion.proofs.sheet_values.Goals as goal

pub returns-in_err-book_refusal : goal.returns-in_err-book_refusal
returns-in_err-book_refusal c =
    let p = err_from_is_err_and c.from_residual.result c.from_residual.ensures.1 in
    let q = book_refuses _ _ (search rules) _ c.in_err-book_refusal.ensures (positive _) in
    rw (p.1, p.2) (record { value = q.0; conversion_right = q.1 })

pub columns-columns-requires : goal.columns-columns-requires
columns-columns-requires c = (book_fits _ c.args.cells (search rules) _ c.in_ok-book_refusal.ensures refl).at_least

pub values_of-requires : goal.values_of-requires
values_of-requires c = omega (arith, c.columns-columns.ensures.value, (book_fits _ c.args.cells (search rules) _ c.in_ok-book_refusal.ensures refl).most_columns)

pub returns : goal.returns
returns c =
    let q = book_passes _ _ (search rules) _ c.in_ok-book_refusal.ensures refl _ c.columns-columns.ensures.value c.values_of.ensures in
    record { value = q.0; conversion_right = q.1 }
