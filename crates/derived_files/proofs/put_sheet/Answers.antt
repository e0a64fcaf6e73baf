-- `derived_files::put_sheet` meets its contract.
use native.Mathlib.Omega.{arith}
use lib.ListN.{replicate}
use Rattle.derived_files.proofs.Files.{places_long, places_taken, target_inside, sheet_put}
use Rattle.derived_files.proofs.put_sheet.Goals as goal

pub slice_bounds-copy_row-end : goal.slice_bounds-copy_row-end
slice_bounds-copy_row-end c = places_long (replicate 64 0) c.args.factors.now c.put_places-count.ensures.value c.requires.factors_bound c.put_places-count.ensures.list_after

pub copy_row-requires : goal.copy_row-requires
copy_row-requires c =
    let long = places_long (replicate 64 0) c.args.factors.now c.put_places-count.ensures.value c.requires.factors_bound c.put_places-count.ensures.list_after in
    let taken = places_taken (replicate 64 0) c.args.factors.now c.put_places-count.ensures.value c.requires.factors_bound c.put_places-count.ensures.list_after in
    record { places_in_bounds = omega (arith, long, c.put_places-count.ensures.value, c.requires.factors_bound, c.requires.in_bounds); inside = target_inside c.args.factors.now _ c.requires.sheet_fits c.sheet_body-from.ensures taken }

pub returns : goal.returns
returns c =
    let taken = places_taken (replicate 64 0) c.args.factors.now c.put_places-count.ensures.value c.requires.factors_bound c.put_places-count.ensures.list_after in
    let q = sheet_put c.args.factors.now _ c.requires.sheet_fits c.shared_slice_known-1.given c.sheet_body-from.ensures c.put_places-count.ensures.value c.requires.factors_bound taken
    _ c.requires.in_bounds c.copy_row.ensures c.steps-steps.ensures c.tolerance-tolerance.ensures c.put_sheet_trailer.ensures in
    record { value = q.0; output_after = q.1 }
