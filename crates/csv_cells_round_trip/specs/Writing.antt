-- Rows of fields written as CSV: each field in quotes, commas between them, a newline after each row. Definitions only.
use Rattle.std.specs.Prelude.{List, [], ◌∷◌, ◌++◌, map, ℕ}
use Rattle.csv_fleet_round_trip.specs.Writing.{quoted, line}

-- a row without fields has no line
unfoldable pub row_line : List (List ℕ) → List ℕ
row_line [] = []
row_line (f ∷ fs) = line (quoted f) (map quoted fs)

unfoldable pub rows_csv : List (List (List ℕ)) → List ℕ
rows_csv [] = []
rows_csv (row ∷ rows) = row_line row ++ rows_csv rows
