-- `csv_sheet_rows::kind_at` meets its contract: a law for each return.
use borrow.Author.Rules.{rules}
use mathlib.Core.Path.{sym}
use lib.Seq.{length-take-le}
use Rattle.csv_sheet_rows.proofs.Reading.{field_there}
use Rattle.csv_sheet_rows.proofs.RowKinds.{at_word, at_blank, at_nameless}
use Rattle.csv_sheet_rows.proofs.kind_at.Goals as goal

pub slice_bounds-kind_of-end : goal.slice_bounds-kind_of-end
slice_bounds-kind_of-end c = sym (length-take-le _ _ (search rules))

pub returns-then-n-ne0 : goal.returns-then-n-ne0
returns-then-n-ne0 c = search (rules, at_word, field_there)

pub returns-then-width-eq0 : goal.returns-then-width-eq0
returns-then-width-eq0 c = search (rules, at_blank)

pub returns : goal.returns
returns c = search (rules, at_nameless)
