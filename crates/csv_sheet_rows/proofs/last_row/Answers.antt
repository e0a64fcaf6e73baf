-- `csv_sheet_rows::last_row` meets its contract: a law for each return.
use borrow.Author.Rules.{rules}
use Rattle.csv_sheet_rows.proofs.Findings.{last_none, last_some}
use Rattle.csv_sheet_rows.proofs.last_row.Goals as goal

pub returns-then-place-eq0 : goal.returns-then-place-eq0
returns-then-place-eq0 c = search (rules, last_none)

pub returns : goal.returns
returns c = search (rules, last_some)
