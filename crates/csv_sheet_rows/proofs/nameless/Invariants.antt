-- `csv_sheet_rows::nameless` meets its contract: `Named` is the loop's invariant.
use Rattle.csv_sheet_rows.proofs.Findings.{Named}
use Rattle.csv_sheet_rows.proofs.nameless.Given as goal

abbrev pub invariant-loop-field : goal.invariant-loop-field
invariant-loop-field l = Named l.n l.csv l.field
