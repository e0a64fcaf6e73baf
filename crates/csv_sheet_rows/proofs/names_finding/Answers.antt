-- `csv_sheet_rows::names_finding` meets its contract: a law for each return.
use borrow.Author.Rules.{rules}
use Rattle.csv_sheet_rows.proofs.Findings.{names_none, names_good, names_nameless}
use Rattle.csv_sheet_rows.proofs.names_finding.Goals as goal

pub returns-then-n-eq0 : goal.returns-then-n-eq0
returns-then-n-eq0 c = search (rules, names_none)

pub returns-then-field-eq0 : goal.returns-then-field-eq0
returns-then-field-eq0 c = search (rules, names_good)

pub returns : goal.returns
returns c = search (rules, names_nameless)
