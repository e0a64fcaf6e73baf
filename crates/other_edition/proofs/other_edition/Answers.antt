-- `other_edition::other_edition` meets its contract.
use mathlib.Core.Path.{sym, ◌∙◌}
use Rattle.files.proofs.Accepted.{sheet_passed}
use Rattle.files.proofs.Numbers.{all_bytes_known}
use Rattle.editions.proofs.Rewriting.{passes, refused, wrote}
use Rattle.other_edition.proofs.Putting.{placed_after}
use Rattle.refusals.proofs.Numbers.{positive}
use Rattle.std.proofs.lemmas.Result.{err_from_is_err_and}
use Rattle.other_edition.proofs.other_edition.Goals as goal

pub returns-in_err-refusal_in : goal.returns-in_err-refusal_in
returns-in_err-refusal_in c =
    let h = all_bytes_known _ c.shared_slice_known-1.given in
    let p = err_from_is_err_and c.from_residual.result c.from_residual.ensures.1 in
    let q = refused _ c.args.output.now h _ c.in_err-refusal_in.ensures (positive _) in
    rw (p.1, p.2) (record { value = q.0; output_after = q.1.0; edition_right = q.1.1 })

pub other_number-number-requires : goal.other_number-number-requires
other_number-number-requires c = (sheet_passed 1 64 _ (passes _ _ (sym c.in_ok-refusal_in.ensures)).own).fits.at_least

pub other_size-size-requires : goal.other_size-size-requires
other_size-size-requires c =
    let passed = passes _ _ (sym c.in_ok-refusal_in.ensures) in
    record { convertible = (passed.own, passed.plain); number_value = c.other_number-number.ensures }

pub put_other-requires : goal.put_other-requires
put_other-requires c =
    let passed = passes _ _ (sym c.in_ok-refusal_in.ensures) in
    record { convertible = (passed.own, passed.plain); number_value = c.other_number-number.ensures; sheet_in_bounds = passed.fits }

pub returns : goal.returns
returns c =
    let h = all_bytes_known _ c.shared_slice_known-1.given in
    let q = wrote _ c.args.output.now h (sym c.in_ok-refusal_in.ensures) _ c.other_number-number.ensures _ c.other_size-size.ensures (c.put_other.ensures ∙ placed_after _ _) in
    record { value = q.0; output_after = q.1.0; edition_right = q.1.1 }
