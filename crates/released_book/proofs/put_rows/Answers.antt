-- `released_book::put_rows` meets its contract. The loop keeps `Rowing`: the rows of the boats before i that may be used are put, up to `at`, and row i is read at `from`.
-- A turn puts row i where the boat may be used.
-- It ends: the boats that are left fall by one.
use Prim.Native.Nat.{◌*◌, ◌<◌}
use mathlib.Core.Path.{ap}
use native.Mathlib.Omega.{arith}
use Rattle.files.specs.Book.{boats}
use Rattle.files.proofs.Accepted.{book_accepted}
use Rattle.released_book.proofs.Rows.{rowing_start, row_inside, row_room, rowing_more, rowing_end}
use Rattle.released_book.proofs.put_rows.Goals as goal

pub boats-boats-requires : goal.boats-boats-requires
boats-boats-requires c = (book_accepted _ c.requires.book_value).at_least

pub columns-width-requires : goal.columns-width-requires
columns-width-requires c = (book_accepted _ c.requires.book_value).at_least

pub overflow_mul-width : goal.overflow_mul-width
overflow_mul-width c = omega (arith, c.columns-width.ensures.upper_bound)

pub book_body-from-requires : goal.book_body-from-requires
book_body-from-requires c = (book_accepted _ c.requires.book_value).whole

pub loop-i-init : goal.loop-i-init
loop-i-init c = rowing_start _ _ _ c.book_body-from.ensures

pub may_use-used-requires : goal.may_use-used-requires
may_use-used-requires c = omega (arith, c.loop-i-test.true, c.boats-boats.ensures, (book_accepted _ c.requires.book_value).most_boats)

pub overflow_add-end : goal.overflow_add-end
overflow_add-end c =
    let h : c.loop-i.i < boats c.args.book.now = omega (arith, c.loop-i-test.true, c.boats-boats.ensures) in
    omega (arith, row_inside c.loop-i.invariant c.requires.book_value c.requires.in_bounds h (ap (λ n. 2 * n) c.columns-width.ensures.value), (book_accepted _ c.requires.book_value).at_most)

pub slice_bounds-put_row-end : goal.slice_bounds-put_row-end
slice_bounds-put_row-end c =
    let h : c.loop-i.i < boats c.args.book.now = omega (arith, c.loop-i-test.true, c.boats-boats.ensures) in
    row_inside c.loop-i.invariant c.requires.book_value c.requires.in_bounds h (ap (λ n. 2 * n) c.columns-width.ensures.value)

pub put_row-at-requires : goal.put_row-at-requires
put_row-at-requires c =
    let h : c.loop-i.i < boats c.args.book.now = omega (arith, c.loop-i-test.true, c.boats-boats.ensures) in
    row_room c.loop-i.invariant c.requires.book_value c.requires.in_bounds h (ap (λ n. 2 * n) c.columns-width.ensures.value)

pub loop-i-preserved : goal.loop-i-preserved
loop-i-preserved c =
    let h : c.loop-i.i < boats c.args.book.now = omega (arith, c.loop-i-test.true, c.boats-boats.ensures) in
    rowing_more c.loop-i.invariant c.requires.book_value c.requires.in_bounds h (ap (λ n. 2 * n) c.columns-width.ensures.value) c.shared_slice_known-1.given c.may_use-used.ensures
    c.put_row-at.ensures.value c.put_row-at.ensures.output_after

pub returns : goal.returns
returns c =
    let q = rowing_end c.loop-i.invariant c.requires.book_value c.requires.in_bounds (omega (arith, c.loop-i-test.false, c.boats-boats.ensures)) in
    record { value = q.0; output_after = q.1 }
