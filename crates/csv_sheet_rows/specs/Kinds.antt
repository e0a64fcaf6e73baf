-- The rows of a sheet's CSV by the word that they begin with. Definitions only.
use Rattle.std.specs.Prelude.{cond, List, [], ◌∷◌, ℕ, zero, suc, eqb}
use Rattle.files.specs.Bytes.{same}
use Rattle.csv_cells.specs.Cells.{cell_text, width}

-- "unit"
abbrev pub UNIT : List ℕ
UNIT = 117 ∷ 110 ∷ 105 ∷ 116 ∷ []

-- "factor"
abbrev pub FACTOR : List ℕ
FACTOR = 102 ∷ 97 ∷ 99 ∷ 116 ∷ 111 ∷ 114 ∷ []

-- "steps"
abbrev pub STEPS : List ℕ
STEPS = 115 ∷ 116 ∷ 101 ∷ 112 ∷ 115 ∷ []

-- "tolerance"
abbrev pub TOLERANCE : List ℕ
TOLERANCE = 116 ∷ 111 ∷ 108 ∷ 101 ∷ 114 ∷ 97 ∷ 110 ∷ 99 ∷ 101 ∷ []

-- "tolerance each"
abbrev pub EACH : List ℕ
EACH = 116 ∷ 111 ∷ 108 ∷ 101 ∷ 114 ∷ 97 ∷ 110 ∷ 99 ∷ 101 ∷ 32 ∷ 101 ∷ 97 ∷ 99 ∷ 104 ∷ []

-- "displacement t"
abbrev pub DISPLACEMENT : List ℕ
DISPLACEMENT = 100 ∷ 105 ∷ 115 ∷ 112 ∷ 108 ∷ 97 ∷ 99 ∷ 101 ∷ 109 ∷ 101 ∷ 110 ∷ 116 ∷ 32 ∷ 116 ∷ []

-- "length m"
abbrev pub LENGTH : List ℕ
LENGTH = 108 ∷ 101 ∷ 110 ∷ 103 ∷ 116 ∷ 104 ∷ 32 ∷ 109 ∷ []

-- what a row is, by its first field: 1 units, 2 factors, 3 steps, 4 tolerance, 5 tolerance for each column, 6 and 7 for the report; any other, 0, is a hull
unfoldable pub kind_of : List ℕ → ℕ
kind_of name =
    cond (same name UNIT) 1
    (cond (same name FACTOR) 2
    (cond (same name STEPS) 3
    (cond (same name TOLERANCE) 4
    (cond (same name EACH) 5 (cond (same name DISPLACEMENT) 6 (cond (same name LENGTH) 7 0))))))

-- a row without text, such as separators alone, is 8
unfoldable pub kind_at : (r : ℕ) → List ℕ → ℕ
kind_at r csv = cond (eqb (width r csv) 0) 8 (kind_of (cell_text r 0 csv))

-- the two kinds of tolerance stand for each other
abbrev pub place : (kind : ℕ) → ℕ
place k = cond (eqb k 5) 4 k

-- the last row from 1 to n that stands for a kind, 0 if there is none
unfoldable pub row_of : (kind n : ℕ) → List ℕ → ℕ
row_of k zero csv = 0
row_of k (suc n) csv = cond (eqb (place (kind_at (suc n) csv)) k) (suc n) (row_of k n csv)
