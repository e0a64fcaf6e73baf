-- What a finding says whose fault is given by its number. Definitions only.
use Rattle.csv_sheet.specs.Outcomes.{Outcome}
use Rattle.csv_sheet.specs.Sheets.{nothing_made}
use Rattle.csv_sheet_text.specs.declared.NumberedFinding.{NumberedFinding}

abbrev pub by_number : NumberedFinding → Outcome
by_number f = nothing_made f.fault f.line f.row f.field
