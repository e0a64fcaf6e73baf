-- A fleet read from a whole CSV: its values, boat after boat, the table after the last token, and the line of the first fault. Definitions only.
use Rattle.std.specs.Prelude.{Bool, false, cond, List, [], ◌∷◌, ◌++◌, ℕ, ◌+◌, ltb, eqb, ℤ, length}
use Rattle.csv_bytes.specs.Tokens.{csv_tokens}
use Rattle.csv_bytes.specs.Cells.{signed}
use Rattle.csv_fleet_tokens.specs.Table.{Table, start, number_fault, after}

-- whether a token ends a value in range: it ends a field, a line or the text, and the field is none of the column names, of the units,
-- and no boat's name
unfoldable pub ends_value : Table → (k : ℕ) → Bool
ends_value t k =
    cond (eqb t.fault 0)
    (cond (ltb k 256) false
    (cond (ltb 258 k) false
    (cond (eqb t.columns 0) false (cond t.units false (cond (eqb t.field 0) false (eqb (number_fault t.cell) 0)))))) false

-- that value after n others, or none. A book has at most 16,384 values
unfoldable pub ended_value : Table → (n k : ℕ) → List ℤ
ended_value t n k = cond (ltb n 16384) (cond (ends_value t k) (signed t.cell.negative t.cell.magnitude ∷ []) []) []

-- from a table on, after n values
unfoldable pub values_from : Table → (n : ℕ) → List ℕ → List ℤ
values_from t n [] = []
values_from t n (k ∷ ks) = ended_value t n k ++ values_from (after t k) (n + length (ended_value t n k)) ks

unfoldable pub table_from : Table → List ℕ → Table
table_from t [] = t
table_from t (k ∷ ks) = table_from (after t k) ks

-- the number of the line after a token; a fault keeps its line
abbrev pub next_number : (line fault token : ℕ) → ℕ
next_number n f k = cond (eqb f 0) (cond (eqb k 257) (n + 1) n) n

unfoldable pub line_from : (line : ℕ) → Table → List ℕ → ℕ
line_from n t [] = n
line_from n t (k ∷ ks) = line_from (next_number n (after t k).fault k) (after t k) ks

-- of a whole CSV
unfoldable pub fleet_values : List ℕ → List ℤ
fleet_values csv = values_from start 0 (csv_tokens csv)

unfoldable pub last_table : List ℕ → Table
last_table csv = table_from start (csv_tokens csv)

unfoldable pub last_line : List ℕ → ℕ
last_line csv = line_from 1 start (csv_tokens csv)
