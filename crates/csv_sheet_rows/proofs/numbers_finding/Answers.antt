-- `csv_sheet_rows::numbers_finding` meets its contract: a law for each return.
use Rattle.csv_fleet_tokens.proofs.Faults.{positive}
use Rattle.csv_sheet_rows.proofs.Findings.{numbers_none, numbers_faulty, numbers_many, passed_on}
use Rattle.csv_sheet_rows.proofs.numbers_finding.Goals as goal

pub returns-then-n-eq0 : goal.returns-then-n-eq0
returns-then-n-eq0 c = numbers_none _ _ _ _ _ c.if-n-eq0.true

pub returns-in_err-field_finding : goal.returns-in_err-field_finding
returns-in_err-field_finding c = passed_on _ _ c.from_residual.ensures (numbers_faulty _ _ _ _ _ c.if-n-eq0.false c.in_err-field_finding.ensures (positive _))

pub returns : goal.returns
returns c = numbers_many _ _ _ _ _ c.if-n-eq0.false c.in_ok-field_finding.ensures c.many_finding.ensures
