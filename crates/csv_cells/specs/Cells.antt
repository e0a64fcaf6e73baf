-- The fields of a CSV by place. A row is a line with bytes, counted from 0, and a field of a row is counted from 0 too. A line without bytes is
-- passed over. Definitions only.
use Rattle.std.specs.Prelude.{Bool, true, false, cond, List, [], ◌∷◌, ◌++◌, ℕ, zero, suc, ◌+◌, ltb, eqb, length}
use Rattle.csv_bytes.specs.Tokens.{csv_tokens}
use Rattle.csv_fields.specs.Fields.{byte_if}
use Rattle.csv_fleet_tokens.specs.Faults.{option_number}
use Rattle.csv_cells.specs.declared.Place.{Place as Read}

-- what is wrong, besides a token that is: a field of more than 200 bytes, more than 65 fields in a line. The numbers are those of csv_fleet_tokens
abbrev pub LONG : ℕ
LONG = 1

abbrev pub MANY : ℕ
MANY = 4

-- where a token stands, with the number of the first fault
pub record Place : Type 0 where
  pub line : ℕ
  pub row : ℕ
  pub field : ℕ
  pub size : ℕ
  pub fault : ℕ

-- of a place of the code
abbrev pub numbered : Read → Place
numbered p = record { line = p.line; row = p.row; field = p.field; size = p.size; fault = option_number p.fault }

-- ---- where a token stands: its line, counted from 1, the rows before its line, the fields before its field, the bytes of the field before it

abbrev pub start : Place
start = record { line = 1; row = 0; field = 0; size = 0; fault = 0 }

abbrev pub faulty : Place → ℕ → Place
faulty p f = record { line = p.line; row = p.row; field = p.field; size = p.size; fault = f }

unfoldable pub with_text : Place → Place
with_text p = cond (ltb p.size 200) (record { line = p.line; row = p.row; field = p.field; size = p.size + 1; fault = 0 }) (faulty p LONG)

unfoldable pub next_field : Place → Place
next_field p = cond (ltb p.field 64) (record { line = p.line; row = p.row; field = p.field + 1; size = 0; fault = 0 }) (faulty p MANY)

-- the rows before the next line
unfoldable pub row_after : Place → ℕ
row_after p = cond (eqb p.field 0) (cond (eqb p.size 0) p.row (p.row + 1)) (p.row + 1)

unfoldable pub next_line : Place → Place
next_line p = record { line = p.line + 1; row = row_after p; field = 0; size = 0; fault = 0 }

unfoldable pub ended : Place → Place
ended p = record { line = p.line; row = row_after p; field = 0; size = 0; fault = 0 }

-- a token: a byte, the end of a field (256), of a line (257), of the text (258), nothing (259), what is wrong
unfoldable pub consumed : Place → ℕ → Place
consumed p k =
    cond (ltb k 256) (with_text p)
    (cond (eqb k 256) (next_field p) (cond (eqb k 257) (next_line p) (cond (eqb k 258) (ended p) (cond (eqb k 259) p (faulty p k)))))

-- the place of the next token. The first fault stays
unfoldable pub moved : Place → ℕ → Place
moved p k = cond (eqb p.fault 0) (consumed p k) p

unfoldable pub place_from : Place → List ℕ → Place
place_from p [] = p
place_from p (k ∷ ks) = place_from (moved p k) ks

-- of a whole CSV: how many rows it has, or the first fault with its line and field
unfoldable pub last_place : List ℕ → Place
last_place csv = place_from start (csv_tokens csv)

-- ---- what stands in field f of row r

unfoldable pub is_in : (r f : ℕ) → Place → (k : ℕ) → Bool
is_in r f p k = cond (ltb k 256) (cond (eqb (moved p k).fault 0) (cond (eqb p.row r) (eqb p.field f) false) false) false

-- whether the field is before a place, or there is a fault: none of its bytes is there or after it
unfoldable pub is_past : (r f : ℕ) → Place → Bool
is_past r f p = cond (eqb p.fault 0) (cond (eqb p.row r) (ltb f p.field) (ltb r p.row)) true

abbrev pub cell_byte : (r f m : ℕ) → Place → (k : ℕ) → List ℕ
cell_byte r f m p k = byte_if (is_in r f p k) m k

-- from a place on, after m bytes
unfoldable pub cell_from : (r f m : ℕ) → Place → List ℕ → List ℕ
cell_from r f m p [] = []
cell_from r f m p (k ∷ ks) = cell_byte r f m p k ++ cell_from r f (m + length (cell_byte r f m p k)) (moved p k) ks

-- of a whole CSV; no bytes where there is no such field
unfoldable pub cell_text : (r f : ℕ) → List ℕ → List ℕ
cell_text r f csv = cell_from r f 0 start (csv_tokens csv)

-- ---- the line of row r: that of its last token

abbrev pub line_at : (r n : ℕ) → Place → ℕ
line_at r n p = cond (eqb p.row r) p.line n

unfoldable pub line_from : (r n : ℕ) → Place → List ℕ → ℕ
line_from r n p [] = n
line_from r n p (k ∷ ks) = line_from r (line_at r n p) (moved p k) ks

unfoldable pub line_of : (r : ℕ) → List ℕ → ℕ
line_of r csv = line_from r 0 start (csv_tokens csv)

-- ---- how many fields row r has up to the last with bytes

unfoldable pub width_to : (n r : ℕ) → List ℕ → ℕ
width_to zero r csv = 0
width_to (suc n) r csv = cond (eqb (length (cell_text r n csv)) 0) (width_to n r csv) (suc n)

unfoldable pub width : (r : ℕ) → List ℕ → ℕ
width r csv = width_to 65 r csv

-- as far as it is known: up to the field of a token that is a byte of the row, else what it was
abbrev pub width_at : (r n : ℕ) → Place → (k : ℕ) → ℕ
width_at r n p k = cond (is_in r p.field p k) (p.field + 1) n
