-- `derived_files::put_book` meets its contract.
use native.Mathlib.Omega.{arith}
use lib.ListN.{replicate}
use Rattle.files.proofs.Accepted.{book_accepted}
use Rattle.derived_files.proofs.Files.{places_long, places_taken, places_serve, derived_cells, book_put}
use Rattle.derived_files.proofs.put_book.Goals as goal

pub boats-boats-requires : goal.boats-boats-requires
boats-boats-requires c = (book_accepted _ c.requires.book_value).at_least

pub put_places-count-requires : goal.put_places-count-requires
put_places-count-requires c = record { factors_len_bound = omega (arith, c.requires.factors_len, (book_accepted _ c.requires.book_value).most_columns); factors_in_bounds = c.requires.factors_bound }

pub slice_bounds-put_rows-end : goal.slice_bounds-put_rows-end
slice_bounds-put_rows-end c = places_long (replicate 64 0) c.args.factors.now c.put_places-count.ensures.value c.requires.factors_bound c.put_places-count.ensures.list_after

pub put_rows-requires : goal.put_rows-requires
put_rows-requires c =
    let long = places_long (replicate 64 0) c.args.factors.now c.put_places-count.ensures.value c.requires.factors_bound c.put_places-count.ensures.list_after in
    let taken = places_taken (replicate 64 0) c.args.factors.now c.put_places-count.ensures.value c.requires.factors_bound c.put_places-count.ensures.list_after in
    record { book_value = c.requires.book_value; places_len_bound = omega (arith, long, c.put_places-count.ensures.value, c.requires.factors_bound); below = places_serve c.args.factors.now taken c.requires.factors_len; in_bounds = omega (arith, c.requires.in_bounds) }

pub overflow_mul-at : goal.overflow_mul-at
overflow_mul-at c = omega (arith, derived_cells c.args.factors.now _ c.requires.book_value c.requires.factors_bound c.boats-boats.ensures c.put_places-count.ensures.value)

pub overflow_mul-at-2 : goal.overflow_mul-at-2
overflow_mul-at-2 c = omega (arith, derived_cells c.args.factors.now _ c.requires.book_value c.requires.factors_bound c.boats-boats.ensures c.put_places-count.ensures.value)

pub put_book_trailer-requires : goal.put_book_trailer-requires
put_book_trailer-requires c = omega (arith, derived_cells c.args.factors.now _ c.requires.book_value c.requires.factors_bound c.boats-boats.ensures c.put_places-count.ensures.value, c.put_rows.auto, c.requires.in_bounds)

pub overflow_add-result : goal.overflow_add-result
overflow_add-result c = omega (arith, derived_cells c.args.factors.now _ c.requires.book_value c.requires.factors_bound c.boats-boats.ensures c.put_places-count.ensures.value)

pub returns : goal.returns
returns c =
    let taken = places_taken (replicate 64 0) c.args.factors.now c.put_places-count.ensures.value c.requires.factors_bound c.put_places-count.ensures.list_after in
    let q = book_put c.args.factors.now _ c.requires.book_value c.requires.factors_len c.boats-boats.ensures c.put_places-count.ensures.value c.requires.factors_bound taken _ c.requires.in_bounds
    c.put_rows.ensures c.put_book_trailer.ensures in
    record { value = q.0; output_after = q.1 }
