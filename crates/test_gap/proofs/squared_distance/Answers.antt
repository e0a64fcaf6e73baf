-- `test_gap::squared_distance` meets its contract.
use Rattle.iteration.proofs.Steps.{row_fits, cells_fit, cell_fits}
use Rattle.test_gap.proofs.Rows.{moved_asks, norm_asks, norm_is}
use borrow.Author.Rules.{rules}
use Rattle.test_gap.proofs.squared_distance.Goals as goal

pub overflow_mul-a : goal.overflow_mul-a
overflow_mul-a c = cell_fits _ _ c.requires.sheet_value c.requires.layout_value c.requires.i_bound.0 (search rules)

pub overflow_mul-a-2 : goal.overflow_mul-a-2
overflow_mul-a-2 c = cells_fit _ _ c.requires.sheet_value c.requires.layout_value c.requires.i_bound.0 (search rules)

pub overflow_add-a : goal.overflow_add-a
overflow_add-a c = row_fits _ _ c.requires.sheet_value c.requires.layout_value c.requires.i_bound.0 (search rules)

pub overflow_mul-b : goal.overflow_mul-b
overflow_mul-b c = cell_fits _ _ c.requires.sheet_value c.requires.layout_value c.requires.i_bound.1 (search rules)

pub overflow_mul-b-2 : goal.overflow_mul-b-2
overflow_mul-b-2 c = cells_fit _ _ c.requires.sheet_value c.requires.layout_value c.requires.i_bound.1 (search rules)

pub overflow_add-b : goal.overflow_add-b
overflow_add-b c = row_fits _ _ c.requires.sheet_value c.requires.layout_value c.requires.i_bound.1 (search rules)

pub moved-d-requires : goal.moved-d-requires
moved-d-requires c =
    let q = moved_asks _ _ c.requires.sheet_value c.requires.layout_value c.requires.i_bound.0 c.requires.i_bound.1 in
    record { span = q.0; span_2 = q.1.0; movable = q.1.1 }

pub squared_norm-requires : goal.squared_norm-requires
squared_norm-requires c =
    let q = norm_asks _ _ c.requires.sheet_value c.requires.layout_value c.requires.i_bound.0 c.requires.i_bound.1 c.moved-d.ensures (search rules) in
    record { columns_bound = q.0; bounded = q.1 }

pub returns : goal.returns
returns c = norm_is _ _ c.requires.sheet_value c.requires.layout_value c.requires.i_bound.0 c.requires.i_bound.1 c.moved-d.ensures c.squared_norm.ensures
