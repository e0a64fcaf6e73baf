-- The lines about a sheet's CSV: that of its fault, with file, line, row, column and what is wrong there, or those of its sheet. Definitions only.
use Rattle.std.specs.Prelude.{Bool, true, cond, List, [], ◌∷◌, ◌++◌, ℕ, ltb, eqb, length}
use Rattle.files.specs.Bytes.{between}
use Rattle.text.specs.Lines.{number_line}
use Rattle.csv_front_text.specs.declared.Front.TheVariants.{Whole}
use Rattle.csv_book_words.specs.Words.{wants_value, front_line}
use Rattle.csv_cells.specs.Cells.{cell_text}
use Rattle.csv_sheet_rows.specs.Kinds.{kind_of}
use Rattle.csv_sheet.specs.Outcomes.{Outcome}
use Rattle.csv_sheet_words.specs.Words.{wants_row, wants_column, row_line, column_line}

-- ---- the line of a fault in a row, or of the whole CSV

-- what stands in a field, where it is wanted and the CSV is not too long to be read
unfoldable pub looked : (wanted : Bool) → (row field : ℕ) → List ℕ → List ℕ
looked w r f csv = cond w (cond (ltb 200000 (length csv)) [] (cell_text r f csv)) []

-- the first field of the row of a fault, and what that makes of the row
unfoldable pub row_name : (csv : List ℕ) → Outcome → List ℕ
row_name csv m = looked (wants_row m.fault) m.row 0 csv

abbrev pub row_kind : (csv : List ℕ) → Outcome → ℕ
row_kind csv m = kind_of (row_name csv m)

unfoldable pub row_fault : (csv : List ℕ) → Outcome → List ℕ
row_fault csv m =
    row_line m (row_kind csv m) (row_name csv m) (looked (wants_column m.fault (row_kind csv m)) 0 m.field csv)
    (looked (wants_value m.fault) m.row m.field csv)

-- ---- the line of a column: 18 missing, 19 twice, 20 not in the fleet, 21 twice in the fleet

-- a column that the fleet has not is one of the sheet; any other one of the fleet
unfoldable pub column_fault : (fleet csv : List ℕ) → Outcome → List ℕ
column_fault fleet csv m = column_line m.fault (looked true 0 m.field (cond (eqb m.fault 20) csv fleet))

-- ---- the line of any fault. 12, a fault of the fleet, has none here: its line is that of the fleet

unfoldable pub sheet_fault : (fleet csv : List ℕ) → Outcome → List ℕ
sheet_fault fleet csv m = cond (eqb m.fault 12) [] (cond (between 18 21 m.fault) (column_fault fleet csv m) (row_fault csv m))

-- ---- the lines of a sheet

-- "sheet "
abbrev pub SHEET : List ℕ
SHEET = 115 ∷ 104 ∷ 101 ∷ 101 ∷ 116 ∷ 32 ∷ []

-- "factors "
abbrev pub FACTORS : List ℕ
FACTORS = 102 ∷ 97 ∷ 99 ∷ 116 ∷ 111 ∷ 114 ∷ 115 ∷ 32 ∷ []

-- "steps "
abbrev pub STEPS : List ℕ
STEPS = 115 ∷ 116 ∷ 101 ∷ 112 ∷ 115 ∷ 32 ∷ []

-- "tolerance "
abbrev pub TOLERANCE : List ℕ
TOLERANCE = 116 ∷ 111 ∷ 108 ∷ 101 ∷ 114 ∷ 97 ∷ 110 ∷ 99 ∷ 101 ∷ 32 ∷ []

-- columns, the total of their factors, steps and tolerance; the CSV stands in front of the sheet
unfoldable pub sheet_lines : Outcome → List ℕ
sheet_lines m =
    number_line SHEET m.columns
    ++ (number_line FACTORS m.factors
    ++ (number_line STEPS m.steps ++ (number_line TOLERANCE m.tolerance ++ front_line Whole)))
