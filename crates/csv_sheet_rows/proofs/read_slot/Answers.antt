-- `csv_sheet_rows::read_slot` meets its contract: the slot has the field's bytes.
use native.Mathlib.Omega.{arith}
use mathlib.Core.Path.{ap, ◌∙◌}
use lib.ListN.{length}
use Rattle.csv_slots.proofs.Holding.{slot_fits, slot_short, field_held}
use Rattle.csv_sheet_rows.proofs.Reading.{cell_read}
use Rattle.csv_sheet_rows.proofs.read_slot.Goals as goal

pub cell-text-requires : goal.cell-text-requires
cell-text-requires c =
    let q = slot_fits c.requires.room _ (omega (arith, c.requires.field_bound)) in
    record { number_in_bounds = q.0; number_in_bounds_2 = q.1 }

pub read-requires : goal.read-requires
read-requires c = omega (arith, ap length c.cell-text.ensures, slot_short c.requires.room c.args.field (omega (arith, c.requires.field_bound)))

pub returns : goal.returns
returns c = λ row csv held. cell_read row _ csv (c.cell-text.ensures ∙ field_held held _ c.requires.field_bound) c.read.ensures
