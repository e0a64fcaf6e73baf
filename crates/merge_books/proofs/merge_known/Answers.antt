-- `merge_books::merge_known` meets its contract: a law for each return.
use mathlib.Core.Path.{sym, ap, ◌∙◌}
use Rattle.refusals.specs.Numbers.{refusal_number}
use native.Mathlib.Omega.{arith}
use Rattle.files.proofs.Accepted.{book_accepted}
use Rattle.derived_files.proofs.Rows.{cells_most}
use Rattle.merge_books.proofs.Merging.{columns_most}
use Rattle.merge_books.proofs.Written.{first_refused, second_refused, columns_refused, boats_refused, room_refused, part_inside, part_long, book_written}
use Rattle.merge_books.proofs.merge_known.Goals as goal

pub returns-in_err-of_first : goal.returns-in_err-of_first
returns-in_err-of_first c =
    let q = first_refused c.args.first.now c.args.second.now c.args.output.now _ _ c.from_residual.ensures (sym (ap refusal_number c.in_err-of_first.was) ∙ c.requires) in
    record { value = q.0; output_after = q.1.0; merge_right = q.1.1 }

pub returns-in_err-book_refusal : goal.returns-in_err-book_refusal
returns-in_err-book_refusal c =
    let first = sym c.requires ∙ ap refusal_number c.in_ok-of_first.was in
    let q = second_refused c.args.first.now c.args.second.now c.args.output.now first _ _ c.from_residual-in_err-book_refusal.ensures c.in_err-book_refusal.ensures in
    record { value = q.0; output_after = q.1.0; merge_right = q.1.1 }

pub columns-columns-requires : goal.columns-columns-requires
columns-columns-requires c =
    let first = sym c.requires ∙ ap refusal_number c.in_ok-of_first.was in
    (book_accepted _ first).at_least

pub columns-requires : goal.columns-requires
columns-requires c =
    let second = sym c.in_ok-book_refusal.ensures in
    (book_accepted _ second).at_least

pub returns-then-columns : goal.returns-then-columns
returns-then-columns c =
    let first = sym c.requires ∙ ap refusal_number c.in_ok-of_first.was in
    let second = sym c.in_ok-book_refusal.ensures in
    let q = columns_refused c.args.first.now c.args.second.now c.args.output.now first second (λ e. c.if-columns.true (c.columns-columns.ensures.value ∙ e ∙ sym c.columns.ensures.value)) in
    record { value = q.0; output_after = q.1.0; merge_right = q.1.1 }

pub put_rows-boats-requires : goal.put_rows-boats-requires
put_rows-boats-requires c =
    let first = sym c.requires ∙ ap refusal_number c.in_ok-of_first.was in
    let second = sym c.in_ok-book_refusal.ensures in
    let same = sym c.columns-columns.ensures.value ∙ c.if-columns.false ∙ c.columns.ensures.value in
    record { first_value = (first, second); first_value_2 = same; in_bounds = omega arith }

pub returns-then-boats-gt-MOST_BOATS : goal.returns-then-boats-gt-MOST_BOATS
returns-then-boats-gt-MOST_BOATS c =
    let first = sym c.requires ∙ ap refusal_number c.in_ok-of_first.was in
    let second = sym c.in_ok-book_refusal.ensures in
    let same = sym c.columns-columns.ensures.value ∙ c.if-columns.false ∙ c.columns.ensures.value in
    let q = boats_refused c.args.first.now c.args.second.now c.args.output.now first second same c.put_rows-boats.ensures.value c.columns-columns.ensures.value c.if-boats-gt-MOST_BOATS.true in
    record { value = q.0; output_after = q.1.0; merge_right = q.1.1 }

pub overflow_mul-back : goal.overflow_mul-back
overflow_mul-back c =
    let first = sym c.requires ∙ ap refusal_number c.in_ok-of_first.was in
    omega (arith, cells_most c.if-boats-gt-MOST_BOATS.false (columns_most _ first c.columns-columns.ensures.value))

pub overflow_mul-back-2 : goal.overflow_mul-back-2
overflow_mul-back-2 c =
    let first = sym c.requires ∙ ap refusal_number c.in_ok-of_first.was in
    omega (arith, cells_most c.if-boats-gt-MOST_BOATS.false (columns_most _ first c.columns-columns.ensures.value))

pub overflow_add-back : goal.overflow_add-back
overflow_add-back c =
    let first = sym c.requires ∙ ap refusal_number c.in_ok-of_first.was in
    omega (arith, cells_most c.if-boats-gt-MOST_BOATS.false (columns_most _ first c.columns-columns.ensures.value))

pub returns-then-output-back : goal.returns-then-output-back
returns-then-output-back c =
    let first = sym c.requires ∙ ap refusal_number c.in_ok-of_first.was in
    let second = sym c.in_ok-book_refusal.ensures in
    let same = sym c.columns-columns.ensures.value ∙ c.if-columns.false ∙ c.columns.ensures.value in
    let q = room_refused c.args.first.now c.args.second.now c.args.output.now first second same c.put_rows-boats.ensures.value c.columns-columns.ensures.value c.if-boats-gt-MOST_BOATS.false c.if-output-back.true in
    record { value = q.0; output_after = q.1.0; merge_right = q.1.1 }

pub slice_bounds-rows-end : goal.slice_bounds-rows-end
slice_bounds-rows-end c =
    let first = sym c.requires ∙ ap refusal_number c.in_ok-of_first.was in
    let second = sym c.in_ok-book_refusal.ensures in
    let same = sym c.columns-columns.ensures.value ∙ c.if-columns.false ∙ c.columns.ensures.value in
    part_inside c.args.first.now c.args.second.now c.args.output.now first second same c.put_rows-boats.ensures.value c.columns-columns.ensures.value c.if-boats-gt-MOST_BOATS.false c.put_rows-boats.ensures.rows_after

pub slice_bounds-put_bytes-end : goal.slice_bounds-put_bytes-end
slice_bounds-put_bytes-end c =
    let first = sym c.requires ∙ ap refusal_number c.in_ok-of_first.was in
    let second = sym c.in_ok-book_refusal.ensures in
    let same = sym c.columns-columns.ensures.value ∙ c.if-columns.false ∙ c.columns.ensures.value in
    sym (part_long c.args.first.now c.args.second.now c.args.output.now first second same c.put_rows-boats.ensures.value c.columns-columns.ensures.value c.if-boats-gt-MOST_BOATS.false c.put_rows-boats.ensures.rows_after)

pub put_bytes-requires : goal.put_bytes-requires
put_bytes-requires c =
    let first = sym c.requires ∙ ap refusal_number c.in_ok-of_first.was in
    let second = sym c.in_ok-book_refusal.ensures in
    let same = sym c.columns-columns.ensures.value ∙ c.if-columns.false ∙ c.columns.ensures.value in
    omega (arith, c.if-output-back.false, part_long c.args.first.now c.args.second.now c.args.output.now first second same c.put_rows-boats.ensures.value c.columns-columns.ensures.value c.if-boats-gt-MOST_BOATS.false c.put_rows-boats.ensures.rows_after)

pub returns : goal.returns
returns c =
    let first = sym c.requires ∙ ap refusal_number c.in_ok-of_first.was in
    let second = sym c.in_ok-book_refusal.ensures in
    let same = sym c.columns-columns.ensures.value ∙ c.if-columns.false ∙ c.columns.ensures.value in
    let q = book_written c.args.first.now c.args.second.now c.args.output.now first second same c.put_rows-boats.ensures.value c.columns-columns.ensures.value c.if-boats-gt-MOST_BOATS.false c.put_rows-boats.ensures.rows_after c.if-output-back.false c.put_bytes.ensures c.put_book_trailer.ensures in
    record { value = q.0; output_after = q.1.0; merge_right = q.1.1 }
