-- `csv_sheet_rows::rows_finding` meets its contract: `RowsRead` is the loop's invariant.
use borrow.Author.Rules.{rules}
use Rattle.csv_sheet_rows.proofs.Findings.{rows_start, rows_found, rows_more, rows_end, passed_on}
use Rattle.csv_fleet_tokens.proofs.Faults.{positive}
use native.Mathlib.Omega.{arith}
use Rattle.csv_sheet_rows.proofs.rows_finding.Goals as goal

pub loop-row-init : goal.loop-row-init
loop-row-init c = search (rules, rows_start)

pub returns-in_err-row_finding : goal.returns-in_err-row_finding
returns-in_err-row_finding c = passed_on _ _ c.from_residual.ensures (rows_found c.loop-row.invariant c.loop-row-test.true c.in_err-row_finding.ensures (positive _))

pub loop-row-preserved : goal.loop-row-preserved
loop-row-preserved c = search (rules, rows_more)

pub returns-in_ok-row_finding : goal.returns-in_ok-row_finding
returns-in_ok-row_finding c = rows_end (rows_more c.loop-row.invariant c.loop-row-test.true c.in_ok-row_finding.ensures) (omega arith)

pub returns : goal.returns
returns c = search (rules, rows_end)
