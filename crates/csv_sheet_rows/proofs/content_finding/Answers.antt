-- `csv_sheet_rows::content_finding` meets its contract: a law for each return.
use borrow.Author.Rules.{rules}
use Rattle.csv_sheet_rows.proofs.Findings.{content_many, content_names, content_rows, content_missing, passed_on}
use Rattle.csv_fleet_tokens.proofs.Faults.{positive}
use mathlib.Core.Path.{refl}
use Rattle.csv_sheet_rows.proofs.content_finding.Goals as goal

pub returns-then-last-gt15 : goal.returns-then-last-gt15
returns-then-last-gt15 c = search (rules, content_many)

pub returns-in_err-names_finding : goal.returns-in_err-names_finding
returns-in_err-names_finding c = passed_on _ _ c.from_residual.ensures (content_names _ c.last_row-last.ensures c.if-last-gt15.false c.in_err-names_finding.ensures (positive _))

pub returns-in_err-rows_finding : goal.returns-in_err-rows_finding
returns-in_err-rows_finding c =
    passed_on _ _ c.from_residual-in_err-rows_finding.ensures
    (content_rows _ c.last_row-last.ensures c.if-last-gt15.false c.in_ok-names_finding.ensures refl c.row_of-factors.ensures c.columns.ensures.value c.in_err-rows_finding.ensures (positive _))

pub returns : goal.returns
returns c = search (rules, content_missing)
