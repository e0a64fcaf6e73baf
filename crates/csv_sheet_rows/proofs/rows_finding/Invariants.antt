-- `csv_sheet_rows::rows_finding` meets its contract: `RowsRead` is the loop's invariant.
use Rattle.csv_sheet_rows.proofs.Findings.{RowsRead}
use Rattle.csv_sheet_rows.proofs.rows_finding.Given as goal

abbrev pub invariant-loop-row : goal.invariant-loop-row
invariant-loop-row l = RowsRead l.factors l.columns l.n l.csv l.row
