-- `csv_sheet_parts::steps_of` meets its contract.
use Rattle.csv_sheet_parts.specs.Parts.{steps_of}
use Rattle.csv_sheet_parts.proofs.steps_of.Goals as goal

pub returns : goal.returns
unfolding steps_of
returns c = rw (c.cell_at-cell.ensures, c.row_for.ensures)
