-- `csv_sheet_rows::cell_at` meets its contract: the field stands at the front of the buffer.
use borrow.Author.Rules.{rules}
use mathlib.Core.Path.{sym}
use lib.Seq.{length-take-le}
use Rattle.csv_sheet_rows.proofs.Reading.{field_there, field_short, cell_read}
use Rattle.csv_sheet_rows.proofs.cell_at.Goals as goal

pub slice_bounds-read-end : goal.slice_bounds-read-end
slice_bounds-read-end c = sym (length-take-le _ _ (search rules))

pub read-requires : goal.read-requires
read-requires c = field_short _ _ _ c.put_cell-n.ensures.value c.put_cell-n.ensures.output_after

pub returns : goal.returns
returns c = search (rules, cell_read, field_there)
