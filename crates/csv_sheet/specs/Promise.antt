-- What holds of the sheet that two CSVs give.
use Rattle.std.specs.Prelude.{◌≡◌, List, [], ℕ, zero, suc, ◌≤◌, ◌<◌, pos, length, get_or}
use Rattle.frank_wolfe.specs.Vectors.{sum}
use Rattle.files.specs.Limits.{file_limit}
use Rattle.files.specs.Sheet.{Sheet, sheet, sheet_refusal, files_refusal}
use Rattle.csv_numbers.specs.Numbers.{SaysValue}
use Rattle.csv_book.specs.Books.{csv_book}
use Rattle.csv_fleet_round_trip.specs.Back.{All}
use Rattle.csv_cells.specs.Cells.{cell_text}
use Rattle.csv_cells_round_trip.specs.Writing.{rows_csv}
use Rattle.csv_cells_round_trip.specs.Back.{RowFits}
use Rattle.csv_sheet_rows.specs.Kinds.{kind_at}
use Rattle.csv_sheet_rows.specs.Rows.{sheet_names}
use Rattle.csv_sheet_rows.specs.Sound.{SaidOrOpen}
use Rattle.csv_column_match.specs.Matched.{Matched}
use Rattle.csv_sheet_parts.specs.Parts.{row_for, tolerance_by}
use Rattle.csv_sheet.specs.Sheets.{places, asked}
use Rattle.csv_sheet.specs.Outcomes.{Outcome}

-- what a sheet asks for is what the figures in the fields say, of which `text` gives field f of row r: each value and factor those of the field of its
-- column, the steps and the tolerance those of their rows; one tolerance for each column stands for its square times the total of the factors. A value
-- may be left open where the column's factor is 0: its field has no byte, and the sheet has 0
pub record FiguresSaid (text : (r f : ℕ) → List ℕ) (fleet csv : List ℕ) (s : Sheet) : Type 0 where
  pub values : (i : ℕ) → i < length (places fleet csv) →
      SaidOrOpen (get_or s.target i (pos 0)) (text (row_for 0 csv) (get_or (places fleet csv) i 0)) (row_for 2 csv) (get_or s.factors i 0)
  pub factors : (row_for 2 csv ≡ 0 → ⊥) → (i : ℕ) → i < length (places fleet csv) → SaysValue (pos (get_or s.factors i 0)) (text (row_for 2 csv) (get_or (places fleet csv) i 0))
  pub steps : SaysValue (pos s.steps) (text (row_for 3 csv) 1)
  pub tolerance_number : ℕ
  pub tolerance_said : SaysValue (pos tolerance_number) (text (row_for 4 csv) 1)
  pub tolerance : s.tolerance ≡ tolerance_by (kind_at (row_for 4 csv) csv) tolerance_number (sum s.factors)

-- s is a sheet that is not refused for the fleet's columns, nor with the book that the fleet's CSV gives, and asks for exactly what the CSVs ask for;
-- each of the fleet's columns has its own column of the same name in the sheet's CSV, and no other stands there. Where the CSV is that of rows of
-- fields, for any bytes in them, the sheet asks for what these fields say
pub record SheetAccepted (fleet csv : List ℕ) (r : Outcome) (s : List ℕ) : Type 0 where
  pub size : length s ≡ r.len
  pub most_bytes : r.len ≤ file_limit
  pub accepted : sheet_refusal r.columns s ≡ 0
  pub with_book : files_refusal (csv_book fleet) s ≡ 0
  pub asks : sheet s ≡ asked fleet csv
  pub figures : FiguresSaid (λ r f. cell_text r f csv) fleet csv (sheet s)
  pub fields_back : (rows : List (List (List ℕ))) → All RowFits rows → csv ≡ rows_csv rows → FiguresSaid (λ r f. get_or (get_or rows r []) f []) fleet csv (sheet s)
  pub matched : Matched r.columns (sheet_names csv) fleet csv

unfoldable pub SheetRightBy : (fault : ℕ) → (fleet csv : List ℕ) → Outcome → (s : List ℕ) → Type 0
SheetRightBy zero fleet csv r s = SheetAccepted fleet csv r s
SheetRightBy (suc f) fleet csv r s = s ≡ []

-- s are the bytes that were written, none where there is a fault
abbrev pub SheetRight : (fleet csv : List ℕ) → Outcome → (s : List ℕ) → Type 0
SheetRight fleet csv r s = SheetRightBy r.fault fleet csv r s
