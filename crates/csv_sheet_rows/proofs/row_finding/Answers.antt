-- `csv_sheet_rows::row_finding` meets its contract: a law for each return.
use borrow.Author.Rules.{rules}
use Rattle.csv_sheet_rows.proofs.Findings.{row_of_kind}
use Rattle.csv_sheet_rows.proofs.row_finding.Goals as goal

pub returns : goal.returns
returns c = search (rules, row_of_kind)
