-- `csv_origin::is_edition_of` meets its contract: a law of `Sheets` for each return.
use borrow.Author.Rules.{rules}
use mathlib.Core.Path.{◌≡◌, refl, sym}
use Prim.Native.Nat.{ℕ}
use native.Mathlib.Omega.{arith}
use lib.ListN.{length, length-replicate}
use lib.Seq.{length-take-le}
use Rattle.csv_origin.proofs.Sheets.{same_edition, no_other, other_short, other_compared}
use Rattle.csv_origin.proofs.is_edition_of.Goals as goal

pub returns-then-is_same : goal.returns-then-is_same
returns-then-is_same c = same_edition _ _ c.is_same.ensures c.if-is_same.true

pub slice_bounds-other_edition-end : goal.slice_bounds-other_edition-end
slice_bounds-other_edition-end c = sym (length-replicate {A = ℕ} 40000 0)

pub slice_bounds-output-end : goal.slice_bounds-output-end
slice_bounds-output-end c =
    let long : length c.other_edition.new.output ≡ 40000 = search rules in
    omega (arith, other_short _ _ c.is_same.ensures c.if-is_same.false c.in-Ok.ensures.value (length-replicate {A = ℕ} 40000 0) refl, long)

pub slice_bounds-is_same-end : goal.slice_bounds-is_same-end
slice_bounds-is_same-end c =
    let long : length c.other_edition.new.output ≡ 40000 = search rules in
    sym (length-take-le _ c.other_edition.new.output (omega (arith, other_short _ _ c.is_same.ensures c.if-is_same.false c.in-Ok.ensures.value (length-replicate {A = ℕ} 40000 0) refl, long)))

pub returns-in-Err : goal.returns-in-Err
returns-in-Err c = no_other _ _ c.is_same.ensures c.if-is_same.false c.in-Err.ensures.value (length-replicate {A = ℕ} 40000 0) refl

pub returns-in-Ok : goal.returns-in-Ok
returns-in-Ok c = other_compared _ _ c.is_same.ensures c.if-is_same.false c.in-Ok.ensures.value (length-replicate {A = ℕ} 40000 0) refl _ c.other_edition.ensures.output_after c.is_same-in-Ok.ensures
