-- `csv_sheet_parts::row_for` meets its contract.
use borrow.Author.Rules.{rules}
use mathlib.Core.Path.{◌∙◌}
use Rattle.csv_sheet_parts.proofs.Bounds.{rows_few}
use Rattle.csv_sheet_parts.proofs.row_for.Goals as goal

pub row_of-requires : goal.row_of-requires
row_of-requires c = record { csv_len_bound = search rules; n_bound = rows_few _ (search rules) c.last_row-last.ensures }

pub returns : goal.returns
returns c = c.row_of.ensures ∙ rw c.last_row-last.ensures
