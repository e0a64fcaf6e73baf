-- One field of a fleet's CSV, as bytes: a boat's or a column's name, or what stands in place of a value. Definitions only.
use Rattle.std.specs.Prelude.{Bool, false, cond, List, [], ◌∷◌, ◌++◌, ℕ, ◌+◌, ltb, eqb, Option, Some, None, length}
use Rattle.csv_bytes.specs.Tokens.{csv_tokens}
use Rattle.csv_fleet_tokens.specs.Table.{Table, start, after}
use Rattle.csv_fleet_reader.specs.Fleet.{next_number}

-- whether a token is a byte of field f of line l, where it stands in line n and the table is t. Line 0 is the line of the column names
unfoldable pub is_at : (l f n : ℕ) → Table → (k : ℕ) → Bool
is_at l f n t k =
    cond (ltb k 256)
    (cond (eqb (after t k).fault 0) (cond (eqb t.field f) (cond (eqb l 0) (eqb t.columns 0) (eqb n l)) false) false) false

-- a byte, where it is there
abbrev pub byte_where : (there : Bool) → (k : ℕ) → List ℕ
byte_where there k = cond there (k ∷ []) []

abbrev pub bytes_of : Option ℕ → List ℕ
bytes_of None = []
bytes_of (Some k) = k ∷ []

-- after m others. A field has at most 200 bytes
abbrev pub within_200 : (m : ℕ) → List ℕ → List ℕ
within_200 m bs = cond (ltb m 200) bs []

unfoldable pub byte_if : (there : Bool) → (m k : ℕ) → List ℕ
byte_if there m k = within_200 m (byte_where there k)

abbrev pub field_byte : (l f m n : ℕ) → Table → (k : ℕ) → List ℕ
field_byte l f m n t k = byte_if (is_at l f n t k) m k

-- from a table on, after m bytes
unfoldable pub field_from : (l f m n : ℕ) → Table → List ℕ → List ℕ
field_from l f m n t [] = []
field_from l f m n t (k ∷ ks) =
    field_byte l f m n t k ++ field_from l f (m + length (field_byte l f m n t k)) (next_number n (after t k).fault k) (after t k) ks

-- of a whole CSV
unfoldable pub field_text : (l f : ℕ) → List ℕ → List ℕ
field_text l f csv = field_from l f 0 1 start (csv_tokens csv)
