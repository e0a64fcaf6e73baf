-- `csv_sheet_rows::field_finding` meets its contract. The loop keeps `Faultless`: none of the fields so far is faulty.
-- A turn reads the next field of the row, and of the row of factors, from their slots.
use Rattle.csv_sheet_rows.specs.Numbers.{kind_number}
use Rattle.csv_sheet_rows.proofs.Findings.{Faultless}
use Rattle.csv_sheet_rows.proofs.field_finding.Given as goal

abbrev pub invariant-loop-field : goal.invariant-loop-field
invariant-loop-field l = Faultless (kind_number l.kind) l.factors l.row l.n l.csv l.field
