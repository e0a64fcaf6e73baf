-- `csv_sheet_rows::missing_finding` meets its contract: a law for each return.
use borrow.Author.Rules.{rules}
use Rattle.csv_sheet_rows.proofs.Findings.{missing_hull, missing_steps, missing_tolerance, missing_none}
use Rattle.csv_sheet_rows.proofs.missing_finding.Goals as goal

pub returns-then-row_of-eq0 : goal.returns-then-row_of-eq0
returns-then-row_of-eq0 c = search (rules, missing_hull)

pub returns-then-row_of-eq0-2 : goal.returns-then-row_of-eq0-2
returns-then-row_of-eq0-2 c = search (rules, missing_steps)

pub returns-then-row_of-eq0-3 : goal.returns-then-row_of-eq0-3
returns-then-row_of-eq0-3 c = search (rules, missing_tolerance)

pub returns : goal.returns
returns c = search (rules, missing_none)
