-- `derived_files::put_rows` meets its contract. The loop keeps `Rowing`: the rows of the first i boats are written, each column as often as its factor says.
-- A turn writes the row of boat i behind them by `copy_row`.
use native.Mathlib.Omega.{arith}
use Prim.Native.Nat.{◌<◌}
use Rattle.files.specs.Book.{boats}
use Rattle.files.proofs.Accepted.{book_accepted}
use Rattle.derived_files.proofs.Rows.{row_starts, cell_starts, row_inside, rowing_start, row_room, rowing_more, rowing_end}
use Rattle.derived_files.proofs.put_rows.Goals as goal

pub boats-boats-requires : goal.boats-boats-requires
boats-boats-requires c = (book_accepted _ c.requires.book_value).at_least

pub columns-columns-requires : goal.columns-columns-requires
columns-columns-requires c = (book_accepted _ c.requires.book_value).at_least

pub book_body-body-requires : goal.book_body-body-requires
book_body-body-requires c = (book_accepted _ c.requires.book_value).whole

pub loop-i-init : goal.loop-i-init
loop-i-init c = rowing_start _ _ _

pub overflow_mul-i : goal.overflow_mul-i
overflow_mul-i c = omega (arith, row_starts _ c.requires.book_value c.boats-boats.ensures c.loop-i-test.true c.requires.places_len_bound)

pub overflow_mul-i-in-loop-i : goal.overflow_mul-i-in-loop-i
overflow_mul-i-in-loop-i c = omega (arith, row_starts _ c.requires.book_value c.boats-boats.ensures c.loop-i-test.true c.requires.places_len_bound)

pub overflow_mul-i-in-loop-i-2 : goal.overflow_mul-i-in-loop-i-2
overflow_mul-i-in-loop-i-2 c = omega (arith, cell_starts _ c.requires.book_value c.boats-boats.ensures c.loop-i-test.true c.columns-columns.ensures.value)

pub overflow_mul-i-in-loop-i-3 : goal.overflow_mul-i-in-loop-i-3
overflow_mul-i-in-loop-i-3 c = omega (arith, cell_starts _ c.requires.book_value c.boats-boats.ensures c.loop-i-test.true c.columns-columns.ensures.value)

pub overflow_add-body : goal.overflow_add-body
overflow_add-body c = omega (arith, cell_starts _ c.requires.book_value c.boats-boats.ensures c.loop-i-test.true c.columns-columns.ensures.value, c.book_body-body.ensures, (book_accepted _ c.requires.book_value).at_most)

pub copy_row-requires : goal.copy_row-requires
copy_row-requires c = let h : c.loop-i.i < boats c.args.book.now = omega (arith, c.loop-i-test.true, c.boats-boats.ensures) in record { places_in_bounds = row_room c.loop-i.invariant c.requires.book_value c.requires.places_len_bound c.requires.below c.requires.in_bounds h; inside = row_inside _ _ _ c.args.places.now c.requires.book_value h (rw (c.book_body-body.ensures, c.columns-columns.ensures.value)) c.requires.below }

pub loop-i-preserved : goal.loop-i-preserved
loop-i-preserved c =
    let h : c.loop-i.i < boats c.args.book.now = omega (arith, c.loop-i-test.true, c.boats-boats.ensures) in
    rowing_more c.loop-i.invariant c.requires.book_value c.requires.places_len_bound c.requires.below c.requires.in_bounds h c.shared_slice_known-1.given
    (rw (c.book_body-body.ensures, c.columns-columns.ensures.value)) c.copy_row.ensures

pub returns : goal.returns
returns c = rowing_end c.loop-i.invariant c.requires.book_value c.requires.places_len_bound c.requires.below c.requires.in_bounds (omega (arith, c.loop-i-test.false, c.boats-boats.ensures))
