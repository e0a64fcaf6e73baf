-- `iteration::products_of` meets its contract.
use Rattle.iteration.proofs.Steps.{row_fits, cells_fit, cell_fits, difference_asks, difference_right, products_asks, target_asks, slots_right, target_right, slots_enough}
use mathlib.Core.Path.{◌∙◌}
use mir.Facts.{to_z-of_z}
use borrow.Author.Rules.{rules, sfits_of}
use mir.Syntax.{w32}
use Rattle.iteration.proofs.products_of.Goals as goal

pub overflow_mul-row : goal.overflow_mul-row
overflow_mul-row c = cell_fits _ _ c.requires.sheet_value c.requires.layout_value c.requires.boat_bound (search rules)

pub overflow_mul-row-2 : goal.overflow_mul-row-2
overflow_mul-row-2 c = cells_fit _ _ c.requires.sheet_value c.requires.layout_value c.requires.boat_bound (search rules)

pub overflow_add-row : goal.overflow_add-row
overflow_add-row c = row_fits _ _ c.requires.sheet_value c.requires.layout_value c.requires.boat_bound (search rules)

pub difference-requires : goal.difference-requires
difference-requires c =
    let q = difference_asks _ _ c.requires.sheet_value c.requires.layout_value c.requires.boat_bound in
    record { span = q.0; span_2 = q.1.0; bounded = q.1.1.0; columns_in_bounds = q.1.1.1 }

pub products-requires : goal.products-requires
products-requires c =
    let d = difference_right _ _ c.requires.sheet_value c.requires.layout_value c.requires.boat_bound c.difference.ensures in
    let p = products_asks _ _ c.requires.sheet_value c.requires.layout_value c.requires.boat_bound d in
    record { grid = p.0; padded = p.1.0; rows_bounded = p.1.1; boats_in_bounds = slots_enough _ _ c.requires.sheet_value c.requires.layout_value c.requires.book_in_bounds }

pub narrow_inner-requires : goal.narrow_inner-requires
narrow_inner-requires c =
    let d = difference_right _ _ c.requires.sheet_value c.requires.layout_value c.requires.boat_bound c.difference.ensures in
    let q = target_asks _ _ c.requires.sheet_value c.requires.layout_value c.requires.boat_bound d in
    record { span = q.0; bounded = q.1 }

pub returns : goal.returns
returns c =
    let ok = c.requires.sheet_value in
    let l = c.requires.layout_value in
    let h = c.requires.boat_bound in
    let d = difference_right _ _ ok l h c.difference.ensures in
    record { to_after = slots_right _ _ ok l h d _ c.products.ensures; value = to_z-of_z {w = w32} (sfits_of c.narrow_inner.type_inv) ∙ target_right _ _ ok l h d c.narrow_inner.ensures }
