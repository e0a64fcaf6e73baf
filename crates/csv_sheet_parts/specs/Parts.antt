-- The parts of the sheet that a CSV gives, where the fleet's columns stand at some places of it; and the sheet of them. Definitions only.
use Rattle.std.specs.Prelude.{Bool, cond, not, List, ◌++◌, map, ℕ, ◌*◌, eqb, ℤ}
use Rattle.frank_wolfe.specs.Vectors.{sum}
use Rattle.files.specs.Sheet.{Sheet}
use Rattle.csv_bytes.specs.Cells.{signed, read}
use Rattle.csv_bytes.specs.declared.Cell.{Cell}
use Rattle.sheet_output.specs.Output.{edition_bytes}
use Rattle.csv_cells.specs.Cells.{cell_text}
use Rattle.csv_sheet_rows.specs.Kinds.{kind_at, row_of}
use Rattle.csv_sheet_rows.specs.Rows.{last_row}

-- ---- what the CSV asks for

-- the number in a field, as csv_bytes::Cell has it
abbrev pub cell_at : (r f : ℕ) → List ℕ → Cell
cell_at r f csv = read (cell_text r f csv)

-- the last row that stands for a kind: 0 the hull, 2 factors, 3 steps, 4 tolerance; 0 where there is none
abbrev pub row_for : (kind : ℕ) → List ℕ → ℕ
row_for k csv = row_of k (last_row csv) csv

-- the value in field f of row r
unfoldable pub value_at : (r : ℕ) → (csv : List ℕ) → (f : ℕ) → ℤ
value_at r csv f = signed (cell_at r f csv).negative (cell_at r f csv).magnitude

-- the hull's values in the order of the fleet's columns, which stand at ps
unfoldable pub target_of : (ps csv : List ℕ) → List ℤ
target_of ps csv = map (value_at (row_for 0 csv) csv) ps

unfoldable pub has_factors : (csv : List ℕ) → Bool
has_factors csv = not (eqb (row_for 2 csv) 0)

-- the factor in field f of row r, 1 where there is no such row
unfoldable pub factor_at : (r : ℕ) → (csv : List ℕ) → (f : ℕ) → ℕ
factor_at r csv f = cond (eqb r 0) 1 (cell_at r f csv).magnitude

-- their factors, 1 each where there is no line of them
unfoldable pub factors_of : (ps csv : List ℕ) → List ℕ
factors_of ps csv = map (factor_at (row_for 2 csv) csv) ps

unfoldable pub steps_of : (csv : List ℕ) → ℕ
steps_of csv = (cell_at (row_for 3 csv) 1 csv).magnitude

-- a tolerance, or one for each column, which stands for its square times the total of the factors
unfoldable pub tolerance_by : (kind number total : ℕ) → ℕ
tolerance_by k n total = cond (eqb k 5) (n * n * total) n

unfoldable pub tolerance_for : (total : ℕ) → (csv : List ℕ) → ℕ
tolerance_for total csv = tolerance_by (kind_at (row_for 4 csv) csv) (cell_at (row_for 4 csv) 1 csv).magnitude total

abbrev pub tolerance_of : (ps csv : List ℕ) → ℕ
tolerance_of ps csv = tolerance_for (sum (factors_of ps csv)) csv

-- the hull's values with these factors, steps and tolerance
abbrev pub sheet_of : (ps csv factors : List ℕ) → (steps tolerance : ℕ) → Sheet
sheet_of ps csv factors steps tolerance = record { target = target_of ps csv; factors = factors; steps = steps; tolerance = tolerance }

unfoldable pub asked_at : (ps csv : List ℕ) → Sheet
asked_at ps csv = sheet_of ps csv (factors_of ps csv) (steps_of csv) (tolerance_of ps csv)

-- ---- the sheet: its CSV, whole, as front text, and the edition with factors where the CSV has some

unfoldable pub sheet_at : (ps csv : List ℕ) → List ℕ
sheet_at ps csv = csv ++ edition_bytes (has_factors csv) (asked_at ps csv)
