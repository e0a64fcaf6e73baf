-- What is wrong with a sheet's CSV, its columns aside: the first fault with its place. Definitions only.
use Rattle.std.specs.Prelude.{Bool, true, false, cond, not, List, ℕ, zero, suc, ◌+◌, ◌-◌, ltb, eqb, length}
use Rattle.files.specs.Limits.{step_limit}
use Rattle.csv_bytes.specs.Cells.{is_number, read}
use Rattle.csv_bytes.specs.declared.Cell.{Cell}
use Rattle.csv_cells.specs.Cells.{last_place, cell_text, line_of, width}
use Rattle.csv_sheet_rows.specs.Kinds.{kind_at, place, row_of}
use Rattle.csv_sheet_rows.specs.Findings.{Found}

-- ---- the number in a field

-- how many numbers a row of a kind has: one a column for a hull and its factors
unfoldable pub count_of : (kind columns : ℕ) → ℕ
count_of k c = cond (eqb k 0) c (cond (eqb k 2) c (cond (ltb k 3) 0 (cond (ltb k 6) 1 0)))

-- from where to where they go; those of a hull may be below 0
unfoldable pub least : (kind : ℕ) → ℕ
least k = cond (eqb k 3) 1 0

unfoldable pub most : (kind : ℕ) → ℕ
most k = cond (eqb k 0) 2000 (cond (eqb k 2) 64 (cond (eqb k 3) step_limit (cond (eqb k 4) 1024000000 32000)))

unfoldable pub is_out : (kind : ℕ) → Cell → Bool
is_out k c =
    cond (ltb (most k) c.magnitude) true
    (cond (ltb c.magnitude (least k)) true (cond (eqb k 0) false (cond c.negative (not (eqb c.magnitude 0)) false)))

-- 5 no value, 6 no whole number, 7 out of range
unfoldable pub number_fault : (kind : ℕ) → Cell → ℕ
number_fault k c = cond (eqb c.size 0) 5 (cond (is_number c) (cond (is_out k c) 7 0) 6)

-- ---- a column to be estimated: w is the row of factors, 0 where there is none

-- whether the field of a column in that row says that it is left out
unfoldable pub is_left_out : (w : ℕ) → Cell → Bool
is_left_out w c = cond (eqb w 0) false (cond (is_number c) (eqb c.magnitude 0) false)

-- a hull may have no value in a column that is left out
unfoldable pub is_open : (kind w : ℕ) → (value factor : Cell) → Bool
is_open k w v c = cond (eqb k 0) (cond (eqb v.size 0) (is_left_out w c) false) false

unfoldable pub value_fault : (kind w : ℕ) → (value factor : Cell) → ℕ
value_fault k w v c = cond (is_open k w v c) 0 (number_fault k v)

unfoldable pub field_fault : (kind w r f : ℕ) → List ℕ → ℕ
field_fault k w r f csv = value_fault k w (read (cell_text r f csv)) (read (cell_text w f csv))

-- the first of fields 1 to n that is faulty, 0 if none is
unfoldable pub faulty_field : (kind w r n : ℕ) → List ℕ → ℕ
faulty_field k w r zero csv = 0
faulty_field k w r (suc n) csv =
    cond (eqb (faulty_field k w r n csv) 0) (cond (eqb (field_fault k w r (suc n) csv) 0) 0 (suc n)) (faulty_field k w r n csv)

-- ---- a row after that of the column names, c columns, factors in row w

abbrev pub none : Found
none = record { fault = 0; line = 0; row = 0; field = 0 }

abbrev pub found_in : (r f fault : ℕ) → List ℕ → Found
found_in r f x csv = record { fault = x; line = line_of r csv; row = r; field = f }

-- the first of fields 1 to n that is faulty
unfoldable pub field_finding : (kind w r n : ℕ) → List ℕ → Found
field_finding k w r n csv =
    cond (eqb (faulty_field k w r n csv) 0) none (found_in r (faulty_field k w r n csv) (field_fault k w r (faulty_field k w r n csv) csv) csv)

-- 24 more text than the row has numbers
unfoldable pub many_finding : (n r : ℕ) → List ℕ → Found
many_finding n r csv = cond (ltb (n + 1) (width r csv)) (found_in r (n + 1) 24 csv) none

unfoldable pub numbers_finding : (kind w n r : ℕ) → List ℕ → Found
numbers_finding k w n r csv =
    cond (eqb n 0) none
    (cond (eqb (faulty_field k w r n csv) 0) (many_finding n r csv) (found_in r (faulty_field k w r n csv) (field_fault k w r (faulty_field k w r n csv) csv) csv))

-- 14 a second row of a kind, 2 a hull without a name
unfoldable pub kind_finding : (kind w c r : ℕ) → List ℕ → Found
kind_finding k w c r csv =
    cond (eqb k 8) none
    (cond (eqb (row_of (place k) (r - 1) csv) 0)
    (cond (eqb (length (cell_text r 0 csv)) 0) (found_in r 0 2 csv) (numbers_finding k w (count_of k c) r csv)) (found_in r 0 14 csv))

abbrev pub row_finding : (w c r : ℕ) → List ℕ → Found
row_finding w c r csv = kind_finding (kind_at r csv) w c r csv

-- the first of rows 1 to n that is faulty
unfoldable pub rows_finding : (w c n : ℕ) → List ℕ → Found
rows_finding w c zero csv = none
rows_finding w c (suc n) csv = cond (eqb (rows_finding w c n csv).fault 0) (row_finding w c (suc n) csv) (rows_finding w c n csv)

-- ---- the column names

abbrev pub sheet_names : List ℕ → ℕ
sheet_names csv = width 0 csv - 1

-- the first of columns 1 to n without a name, 0 if each has one
unfoldable pub nameless : (n : ℕ) → List ℕ → ℕ
nameless zero csv = 0
nameless (suc n) csv = cond (eqb (nameless n csv) 0) (cond (eqb (length (cell_text 0 (suc n) csv)) 0) (suc n) 0) (nameless n csv)

-- 3 no column, 2 a column without a name
unfoldable pub names_finding : List ℕ → Found
names_finding csv =
    cond (eqb (sheet_names csv) 0) (found_in 0 0 3 csv)
    (cond (eqb (nameless (sheet_names csv) csv) 0) none (found_in 0 (nameless (sheet_names csv) csv) 2 csv))

-- ---- the whole CSV

-- the number of the last row
abbrev pub last_row : List ℕ → ℕ
last_row csv = (last_place csv).row - 1

-- the row of factors, before or after the hull's; 0 where there is none
abbrev pub factor_row : List ℕ → ℕ
factor_row csv = row_of 2 (last_row csv) csv

abbrev pub without : (fault : ℕ) → Found
without x = record { fault = x; line = 0; row = 0; field = 0 }

-- 15 no hull, 16 no steps, 17 no tolerance
unfoldable pub missing_finding : (n : ℕ) → List ℕ → Found
missing_finding n csv =
    cond (eqb (row_of 0 n csv) 0) (without 15)
    (cond (eqb (row_of 3 n csv) 0) (without 16)
    (cond (eqb (row_of 4 n csv) 0) (without 17) none))

-- 13 more than 16 rows
unfoldable pub content_finding : List ℕ → Found
content_finding csv =
    cond (ltb 16 (last_place csv).row) (found_in 16 0 13 csv)
    (cond (eqb (names_finding csv).fault 0)
    (cond (eqb (rows_finding (factor_row csv) (sheet_names csv) (last_row csv) csv).fault 0) (missing_finding (last_row csv) csv)
    (rows_finding (factor_row csv) (sheet_names csv) (last_row csv) csv)) (names_finding csv))

-- the first fault, that of quotes and lengths before the others
unfoldable pub rows_fault : List ℕ → Found
rows_fault csv =
    cond (eqb (last_place csv).fault 0) (content_finding csv)
    (record { fault = (last_place csv).fault; line = (last_place csv).line; row = (last_place csv).row; field = (last_place csv).field })
