-- `csv_sheet_rows::read` meets its contract: `Reading` is the loop's invariant.
use Rattle.csv_sheet_rows.proofs.Reading.{Reading}
use Rattle.csv_sheet_rows.proofs.read.Given as goal

abbrev pub invariant-loop-byte : goal.invariant-loop-byte
invariant-loop-byte l = Reading l.text l.cell l.byte-index
