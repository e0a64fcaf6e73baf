-- `csv_sheet_parts::factor_in` meets its contract: a law for each return.
use native.Mathlib.Omega.{arith}
use mathlib.Core.Path.{ap, ◌∙◌}
use lib.ListN.{length}
use Rattle.csv_bytes.specs.Cells.{read}
use Rattle.csv_slots.proofs.Holding.{slot_fits, slot_short, field_held}
use Rattle.csv_sheet_parts.proofs.Bounds.{no_row, in_row}
use Rattle.csv_sheet_parts.proofs.factor_in.Goals as goal

pub returns-then-row-eq0 : goal.returns-then-row-eq0
returns-then-row-eq0 c = λ csv held. no_row _ csv _ c.if-row-eq0.true

pub cell-text-requires : goal.cell-text-requires
cell-text-requires c =
    let q = slot_fits c.requires.room _ (omega (arith, c.requires.field_bound)) in
    record { number_in_bounds = q.0; number_in_bounds_2 = q.1 }

pub read-cell-requires : goal.read-cell-requires
read-cell-requires c = omega (arith, ap length c.cell-text.ensures, slot_short c.requires.room c.args.field (omega (arith, c.requires.field_bound)))

pub returns : goal.returns
returns c = λ csv held. in_row _ csv _ c.if-row-eq0.false (c.read-cell.ensures ∙ ap read (c.cell-text.ensures ∙ field_held held c.args.field c.requires.field_bound))
