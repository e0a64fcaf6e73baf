-- `csv_sheet_rows::value_fault` meets its contract: a law for each return.
use borrow.Author.Rules.{rules}
use Rattle.csv_sheet_rows.proofs.Findings.{value_open, value_number}
use Rattle.csv_sheet_rows.proofs.value_fault.Goals as goal

pub returns-then-is_open : goal.returns-then-is_open
returns-then-is_open c = search (rules, value_open)

pub returns : goal.returns
returns c = search (rules, value_number)
