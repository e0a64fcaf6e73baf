-- The sheet that two CSVs give: that of the fleet, for its column names, and that of the sheet. Definitions only.
use Rattle.std.specs.Prelude.{cond, List, ℕ, zero, suc, ltb, eqb, length}
use Rattle.frank_wolfe.specs.Vectors.{sum}
use Rattle.files.specs.Bytes.{between}
use Rattle.files.specs.Limits.{file_limit}
use Rattle.files.specs.Sheet.{Sheet}
use Rattle.buffers.specs.Placed.{placed}
use Rattle.csv_fleet_reader.specs.Fleet.{last_table}
use Rattle.csv_sheet_rows.specs.Rows.{sheet_names, rows_fault}
use Rattle.csv_column_match.specs.Match.{positions, mismatch}
use Rattle.csv_sheet_parts.specs.Parts.{factors_of, steps_of, tolerance_of, asked_at, sheet_at}
use Rattle.csv_sheet.specs.Outcomes.{Outcome}

-- ---- what the CSVs ask for

-- where each of the fleet's columns stands in the sheet's CSV
unfoldable pub places : (fleet csv : List ℕ) → List ℕ
places fleet csv = positions (last_table fleet).columns (sheet_names csv) fleet csv

unfoldable pub asked : (fleet csv : List ℕ) → Sheet
asked fleet csv = asked_at (places fleet csv) csv

unfoldable pub csv_sheet : (fleet csv : List ℕ) → List ℕ
csv_sheet fleet csv = sheet_at (places fleet csv) csv

-- ---- the first fault, 0 if there is none

abbrev pub nothing_made : (fault line row field : ℕ) → Outcome
nothing_made f l r p = record { fault = f; line = l; row = r; field = p; len = 0; columns = 0; factors = 0; steps = 0; tolerance = 0 }

-- 22 the total of the factors is not from 1 to 64, 23 the tolerance is above 1,024,000,000
unfoldable pub total_fault : (ps csv : List ℕ) → ℕ
total_fault ps csv = cond (between 1 64 (sum (factors_of ps csv))) (cond (ltb 1024000000 (tolerance_of ps csv)) 23 0) 22

unfoldable pub made_by : (total_fault : ℕ) → (ps csv : List ℕ) → Outcome
made_by zero ps csv =
    record {
      fault = 0;
      line = 0;
      row = 0;
      field = 0;
      len = length (sheet_at ps csv);
      columns = length ps;
      factors = sum (factors_of ps csv);
      steps = steps_of csv;
      tolerance = tolerance_of ps csv;
    }
made_by (suc f) ps csv = nothing_made (suc f) 0 0 0

-- once the columns match
abbrev pub made_at : (ps csv : List ℕ) → Outcome
made_at ps csv = made_by (total_fault ps csv) ps csv

-- once nothing is wrong with the sheet's CSV but perhaps its columns
unfoldable pub made_of_columns : (fleet csv : List ℕ) → Outcome
made_of_columns fleet csv =
    let m = mismatch (last_table fleet).columns (sheet_names csv) fleet csv in
    cond (eqb m.fault 0) (made_at (places fleet csv) csv) (nothing_made m.fault 0 0 m.column)

unfoldable pub made_of_rows : (fleet csv : List ℕ) → Outcome
made_of_rows fleet csv =
    let f = rows_fault csv in
    cond (eqb f.fault 0) (made_of_columns fleet csv) (nothing_made f.fault f.line f.row f.field)

-- 12 a fleet with a fault of its own, or of more than 200,000 bytes
unfoldable pub made_for_fleet : (fleet csv : List ℕ) → Outcome
made_for_fleet fleet csv =
    cond (ltb 200000 (length fleet)) (nothing_made 12 0 0 0)
    (cond (eqb (last_table fleet).fault 0) (made_of_rows fleet csv) (nothing_made 12 0 0 0))

-- 11 a buffer that is too short, then 10 a CSV that is too long: with 39,000 bytes it always stands whole in front of its sheet
unfoldable pub sheet_made : (room : ℕ) → (fleet csv : List ℕ) → Outcome
sheet_made room fleet csv = cond (ltb room file_limit) (nothing_made 11 0 0 0) (cond (ltb 39000 (length csv)) (nothing_made 10 0 0 0) (made_for_fleet fleet csv))

-- the buffer after the call: as it was where there is a fault
unfoldable pub output_at : (fault : ℕ) → (ps csv output : List ℕ) → List ℕ
output_at zero ps csv out = placed out 0 (sheet_at ps csv)
output_at (suc f) ps csv out = out

abbrev pub output_by : (fault : ℕ) → (fleet csv output : List ℕ) → List ℕ
output_by f fleet csv out = output_at f (places fleet csv) csv out
