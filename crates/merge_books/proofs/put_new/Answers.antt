-- `merge_books::put_new` meets its contract: a law for each return.
use mathlib.Core.Path.{sym, ◌∙◌}
use native.Mathlib.Omega.{arith}
use Rattle.derived_files.proofs.Rows.{cells_most}
use Rattle.merge_books.proofs.Putting.{put_known, put_fresh}
use Rattle.merge_books.proofs.put_new.Goals as goal

pub is_among-requires : goal.is_among-requires
is_among-requires c = record { count_bound = c.requires.count_bound; row_len = c.requires.row_len; columns_in_bounds = omega (arith, c.requires.in_bounds, cells_most c.requires.count_bound.0 c.requires.count_bound.1) }

pub returns-then-is_among : goal.returns-then-is_among
returns-then-is_among c =
    let q = put_known c.args.rows.now c.args.row.now _ _ _ (sym c.if-is_among.true ∙ c.is_among.ensures) in
    record { value = q.0; rows_after = q.1 }

pub overflow_mul-count : goal.overflow_mul-count
overflow_mul-count c = omega (arith, cells_most c.requires.count_bound.0 c.requires.count_bound.1)

pub overflow_mul-count-2 : goal.overflow_mul-count-2
overflow_mul-count-2 c = omega (arith, cells_most c.requires.count_bound.0 c.requires.count_bound.1)

pub put_bytes-requires : goal.put_bytes-requires
put_bytes-requires c = omega (arith, c.requires.row_len, c.requires.in_bounds, cells_most c.requires.count_bound.0 c.requires.count_bound.1)

pub returns : goal.returns
returns c =
    let q = put_fresh c.args.rows.now c.args.row.now _ _ _ (sym c.if-is_among.false ∙ c.is_among.ensures) c.put_bytes.ensures in
    record { value = q.0; rows_after = q.1 }
