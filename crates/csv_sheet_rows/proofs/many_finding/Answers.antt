-- `csv_sheet_rows::many_finding` meets its contract: a law for each return.
use borrow.Author.Rules.{rules}
use Rattle.csv_sheet_rows.proofs.Findings.{many_more, many_none}
use Rattle.csv_sheet_rows.proofs.many_finding.Goals as goal

pub returns-then-n-width : goal.returns-then-n-width
returns-then-n-width c = search (rules, many_more)

pub returns : goal.returns
returns c = search (rules, many_none)
