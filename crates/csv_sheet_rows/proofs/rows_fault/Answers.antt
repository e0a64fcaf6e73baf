-- `csv_sheet_rows::rows_fault` meets its contract: a law for each return.
use borrow.Author.Rules.{rules}
use Rattle.csv_sheet_rows.proofs.Findings.{fault_there, fault_later}
use Rattle.csv_sheet_rows.proofs.rows_fault.Goals as goal

pub returns-in-Some : goal.returns-in-Some
returns-in-Some c = fault_there _ _ c.in-Some.is c.last_place-place.ensures

pub returns : goal.returns
returns c = search (rules, fault_later)
