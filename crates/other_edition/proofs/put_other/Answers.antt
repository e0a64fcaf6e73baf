-- `other_edition::put_other` meets its contract.
use mathlib.Core.Path.{refl}
use native.Mathlib.Omega.{arith}
use Rattle.files.proofs.Numbers.{all_bytes_known}
use Rattle.other_edition.proofs.Putting.{fits, kept_long, kept_room, front_inside, ending_room, all_put}
use Rattle.other_edition.proofs.put_other.Goals as goal

pub sheet_columns-columns-requires : goal.sheet_columns-columns-requires
sheet_columns-columns-requires c = (fits _ c.requires.convertible).fits.at_least

pub sheet_body-front-requires : goal.sheet_body-front-requires
sheet_body-front-requires c = (fits _ c.requires.convertible).fits.whole

pub slice_bounds-put_bytes-end : goal.slice_bounds-put_bytes-end
slice_bounds-put_bytes-end c =
    let h = all_bytes_known _ c.shared_slice_known-1.given in
    kept_long _ c.requires.convertible h c.requires.number_value c.sheet_columns-columns.ensures.value c.sheet_body-front.ensures refl refl

pub put_bytes-requires : goal.put_bytes-requires
put_bytes-requires c =
    let h = all_bytes_known _ c.shared_slice_known-1.given in
    kept_room _ c.requires.convertible h c.requires.number_value c.sheet_columns-columns.ensures.value c.sheet_body-front.ensures refl refl c.args.output.now c.requires.sheet_in_bounds

pub steps-steps-requires : goal.steps-steps-requires
steps-steps-requires c = (fits _ c.requires.convertible).fits.at_least

pub tolerance-tolerance-requires : goal.tolerance-tolerance-requires
tolerance-tolerance-requires c = (fits _ c.requires.convertible).fits.at_least

pub slice_bounds-put_ending-count : goal.slice_bounds-put_ending-count
slice_bounds-put_ending-count c =
    let h = all_bytes_known _ c.shared_slice_known-1.given in
    front_inside _ c.requires.convertible h c.requires.number_value c.sheet_columns-columns.ensures.value c.sheet_body-front.ensures refl refl _ c.requires.sheet_in_bounds c.put_bytes.ensures

pub slice_bounds-put_ending-start : goal.slice_bounds-put_ending-start
slice_bounds-put_ending-start c =
    let h = all_bytes_known _ c.shared_slice_known-1.given in
    front_inside _ c.requires.convertible h c.requires.number_value c.sheet_columns-columns.ensures.value c.sheet_body-front.ensures refl refl _ c.requires.sheet_in_bounds c.put_bytes.ensures

pub put_ending-requires : goal.put_ending-requires
put_ending-requires c = let h = all_bytes_known _ c.shared_slice_known-1.given in record { columns_bound = omega (arith, c.sheet_columns-columns.ensures.value, (fits _ c.requires.convertible).most_columns); tolerance_in_bounds = ending_room _ c.requires.convertible h c.requires.number_value c.sheet_columns-columns.ensures.value c.sheet_body-front.ensures c.steps-steps.ensures c.tolerance-tolerance.ensures _ c.requires.sheet_in_bounds c.put_bytes.ensures }

pub returns : goal.returns
returns c =
    let h = all_bytes_known _ c.shared_slice_known-1.given in
    all_put _ c.requires.convertible h c.requires.number_value c.sheet_columns-columns.ensures.value c.sheet_body-front.ensures c.steps-steps.ensures c.tolerance-tolerance.ensures _ c.requires.sheet_in_bounds
    c.put_bytes.ensures c.put_ending.ensures
