-- `csv_slots::put_rows` meets its contract. The loop keeps `Holding`: with the bytes that are still to come, each slot has its field.
-- A turn puts one token into the slot of its field.
-- It ends: the bytes that are left fall by one.
use mathlib.Core.Path.{ap, sym, ◌∙◌}
use Rattle.csv_cells.specs.Cells.{Place}
use Rattle.csv_cells.proofs.Places.{within_fits}
use Rattle.csv_slots.proofs.Holding.{holding_start, holding_more, holding_end}
use Rattle.csv_slots.proofs.put_rows.Goals as goal

pub loop-i-init : goal.loop-i-init
loop-i-init c = holding_start c.requires.room c.requires.empty c.separator-separator.ensures c.start-place.ensures c.mark_size-i.ensures

pub moved-next-requires : goal.moved-next-requires
moved-next-requires c =
    let q = within_fits c.loop-i.invariant.near c.requires.csv_len_bound in
    record { line_bound = q.0; row_bound = q.1 }

pub keep-requires : goal.keep-requires
keep-requires c =
    let inv = c.loop-i.invariant in
    record { fault_value = ap (λ (p : Place). p.fault) c.moved-next.ensures; field_bound = inv.narrow; room = inv.room }

pub loop-i-preserved : goal.loop-i-preserved
loop-i-preserved c = holding_more c.loop-i.invariant c.loop-i-test.true c.read_byte-step.ensures c.moved-next.ensures c.keep.ensures

pub shape_of-sizes : goal.shape_of-sizes
shape_of-sizes c = c.loop-i.invariant.room.sizes_long ∙ sym c.requires.room.sizes_long

pub shape_of-cells : goal.shape_of-cells
shape_of-cells c = c.loop-i.invariant.room.cells_long ∙ sym c.requires.room.cells_long

pub returns : goal.returns
returns c = holding_end c.loop-i.invariant c.loop-i-test.false
