-- `merge_books::put_rows` meets its contract. The loop keeps `Merging`: of the second book's first i rows those that are new stand behind the first book's, and the rows that are left decide the rest.
-- A turn compares row i with every row so far and copies it if it is new, which is what `with_rows` does with the next row.
-- It ends: the rows that are left, boats - i, fall by one.
use native.Mathlib.Omega.{arith}
use mathlib.Core.Path.{refl}
use Prim.Native.Nat.{◌+◌, ◌*◌, ◌<◌}
use Rattle.files.specs.Book.{boats}
use Rattle.files.proofs.Accepted.{book_accepted}
use Rattle.merge_books.proofs.Merging.{Pair, book_cells, body_inside, body_room, first_put, merging_start, row_inside, part_long, merging_more, merging_end, merging_full}
use Rattle.merge_books.proofs.put_rows.Goals as goal

pub columns-columns-requires : goal.columns-columns-requires
columns-columns-requires c = (book_accepted _ c.requires.first_value.0).at_least

pub boats-count-requires : goal.boats-count-requires
boats-count-requires c = (book_accepted _ c.requires.first_value.0).at_least

pub book_body-body-requires : goal.book_body-body-requires
book_body-body-requires c = (book_accepted _ c.requires.first_value.0).whole

pub overflow_mul-body_end : goal.overflow_mul-body_end
overflow_mul-body_end c = omega (arith, book_cells _ c.requires.first_value.0 c.boats-count.ensures c.columns-columns.ensures.value)

pub overflow_mul-body_end-2 : goal.overflow_mul-body_end-2
overflow_mul-body_end-2 c = omega (arith, book_cells _ c.requires.first_value.0 c.boats-count.ensures c.columns-columns.ensures.value)

pub overflow_add-body_end : goal.overflow_add-body_end
overflow_add-body_end c = omega (arith, book_cells _ c.requires.first_value.0 c.boats-count.ensures c.columns-columns.ensures.value, c.book_body-body.ensures, (book_accepted _ c.requires.first_value.0).at_most)

pub slice_bounds-put_bytes-end : goal.slice_bounds-put_bytes-end
slice_bounds-put_bytes-end c = body_inside _ c.requires.first_value.0 c.boats-count.ensures c.columns-columns.ensures.value c.book_body-body.ensures

pub put_bytes-requires : goal.put_bytes-requires
put_bytes-requires c = body_room _ c.requires.first_value.0 c.book_body-body.result c.boats-count.ensures c.columns-columns.ensures.value c.requires.in_bounds

pub boats-boats-requires : goal.boats-boats-requires
boats-boats-requires c = (book_accepted _ c.requires.first_value.1).at_least

pub book_body-at-requires : goal.book_body-at-requires
book_body-at-requires c = (book_accepted _ c.requires.first_value.1).whole

pub loop-i-init : goal.loop-i-init
loop-i-init c =
    let p : Pair c.put_bytes.new.output c.args.first.now c.args.second.now = record { first = c.requires.first_value.0; second = c.requires.first_value.1; same = c.requires.first_value_2; room = omega (arith, c.requires.in_bounds, c.put_bytes.auto) } in
    let o = first_put p c.args.rows.now c.shared_slice_known-1.given c.boats-count.ensures c.columns-columns.ensures.value c.book_body-body.ensures c.put_bytes.ensures in
    merging_start p c.args.rows.now c.requires.in_bounds o c.boats-count.ensures c.book_body-at.ensures

pub returns-then-count-gt-MOST_BOATS : goal.returns-then-count-gt-MOST_BOATS
returns-then-count-gt-MOST_BOATS c =
    let p : Pair c.put_bytes.new.output c.args.first.now c.args.second.now = record { first = c.requires.first_value.0; second = c.requires.first_value.1; same = c.requires.first_value_2; room = omega (arith, c.requires.in_bounds, c.put_bytes.auto) } in
    let o = first_put p c.args.rows.now c.shared_slice_known-1.given c.boats-count.ensures c.columns-columns.ensures.value c.book_body-body.ensures c.put_bytes.ensures in
    let q = merging_full p c.loop-i.invariant c.args.rows.now c.requires.in_bounds o c.if-count-gt-MOST_BOATS.true in
    record { value = q.0; rows_after = q.1 }

pub overflow_mul-end : goal.overflow_mul-end
overflow_mul-end c = omega (arith, c.columns-columns.ensures.upper_bound)

pub overflow_add-end : goal.overflow_add-end
overflow_add-end c =
    let p : Pair c.put_bytes.new.output c.args.first.now c.args.second.now = record { first = c.requires.first_value.0; second = c.requires.first_value.1; same = c.requires.first_value_2; room = omega (arith, c.requires.in_bounds, c.put_bytes.auto) } in
    let h : c.loop-i.i < boats c.args.second.now = omega (arith, c.loop-i-test.true, c.boats-boats.ensures) in
    omega (arith, row_inside p c.loop-i.invariant h {end = c.loop-i.at + 2 * c.columns-columns.result} (rw c.columns-columns.ensures.value), (book_accepted _ c.requires.first_value.1).at_most)

pub slice_bounds-put_new-end : goal.slice_bounds-put_new-end
slice_bounds-put_new-end c =
    let p : Pair c.put_bytes.new.output c.args.first.now c.args.second.now = record { first = c.requires.first_value.0; second = c.requires.first_value.1; same = c.requires.first_value_2; room = omega (arith, c.requires.in_bounds, c.put_bytes.auto) } in
    let h : c.loop-i.i < boats c.args.second.now = omega (arith, c.loop-i-test.true, c.boats-boats.ensures) in
    row_inside p c.loop-i.invariant h (rw c.columns-columns.ensures.value)

pub put_new-count-requires : goal.put_new-count-requires
put_new-count-requires c =
    let p : Pair c.put_bytes.new.output c.args.first.now c.args.second.now = record { first = c.requires.first_value.0; second = c.requires.first_value.1; same = c.requires.first_value_2; room = omega (arith, c.requires.in_bounds, c.put_bytes.auto) } in
    let h : c.loop-i.i < boats c.args.second.now = omega (arith, c.loop-i-test.true, c.boats-boats.ensures) in
    let e = c.columns-columns.ensures.value in record { count_bound = (omega (arith, c.if-count-gt-MOST_BOATS.false), omega (arith, e, (book_accepted _ c.requires.first_value.0).most_columns)); row_len = rw e (part_long p c.loop-i.invariant h refl); in_bounds = omega (arith, c.loop-i.invariant.long, p.room) }

pub loop-i-preserved : goal.loop-i-preserved
loop-i-preserved c =
    let p : Pair c.put_bytes.new.output c.args.first.now c.args.second.now = record { first = c.requires.first_value.0; second = c.requires.first_value.1; same = c.requires.first_value_2; room = omega (arith, c.requires.in_bounds, c.put_bytes.auto) } in
    let h : c.loop-i.i < boats c.args.second.now = omega (arith, c.loop-i-test.true, c.boats-boats.ensures) in
    let e = c.columns-columns.ensures.value in
    merging_more p c.loop-i.invariant h (rw e) c.shared_slice_known-2-1.given (omega (arith, c.if-count-gt-MOST_BOATS.false)) e c.put_new-count.ensures.value c.put_new-count.ensures.rows_after c.put_new-count.auto.rows

pub returns : goal.returns
returns c =
    let p : Pair c.put_bytes.new.output c.args.first.now c.args.second.now = record { first = c.requires.first_value.0; second = c.requires.first_value.1; same = c.requires.first_value_2; room = omega (arith, c.requires.in_bounds, c.put_bytes.auto) } in
    let o = first_put p c.args.rows.now c.shared_slice_known-1.given c.boats-count.ensures c.columns-columns.ensures.value c.book_body-body.ensures c.put_bytes.ensures in
    let q = merging_end p c.loop-i.invariant c.args.rows.now c.requires.in_bounds o (omega (arith, c.loop-i-test.false, c.boats-boats.ensures)) in
    record { value = q.0; rows_after = q.1 }
