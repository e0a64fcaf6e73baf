-- A file with front text that is made of a CSV. Definitions only.
use Rattle.std.specs.Prelude.{Bool, true, cond, List, [], ◌∷◌, ◌++◌, ℕ, ◌-◌, eqb, leb, length, drop}
use Rattle.csv_bytes.specs.declared.Mode.{Mode}
use Rattle.csv_bytes.specs.declared.Mode.TheVariants.{Start}
use Rattle.csv_bytes.specs.Tokens.{step, separator, mark_size}
use Rattle.csv_fleet_tokens.specs.Table.{Table, start, after}
use Rattle.csv_front_text.specs.declared.Front.{Front}
use Rattle.csv_front_text.specs.declared.Front.TheVariants.{Whole, Names, Nothing}
use Rattle.csv_front_text.specs.declared.Written.{Written}
use Rattle.files.specs.Limits.{file_limit}

-- whether a byte with this token is no part of a value, nor a separator before one: it stands in the line of the column names, in that
-- of the units or in the first field of a line, or it ends a line
unfoldable pub is_kept : Table → (token : ℕ) → Bool
is_kept t k = cond (eqb t.columns 0) true (cond t.units true (cond (eqb t.field 0) true (eqb k 257)))

unfoldable pub kept_byte : Table → (token b : ℕ) → List ℕ
kept_byte t k b = cond (is_kept t k) (b ∷ []) []

-- from a table and a mode on
unfoldable pub names_from : (separator : ℕ) → Table → Mode → List ℕ → List ℕ
names_from s t m [] = []
names_from s t m (b ∷ bs) = kept_byte t (step s m b).token b ++ names_from s (after t (step s m b).token) (step s m b).mode bs

-- a CSV without its byte-order mark and its values: names and units
unfoldable pub names_text : List ℕ → List ℕ
names_text csv = names_from (separator csv) start Start (drop (mark_size csv) csv)

-- all of a CSV where there is room for it, else its names and units where there is, else nothing
unfoldable pub front_of : (room : ℕ) → List ℕ → Front
front_of room csv = cond (leb (length csv) room) Whole (cond (leb (length (names_text csv)) room) Names Nothing)

unfoldable pub front_text : Front → List ℕ → List ℕ
front_text Whole csv = csv
front_text Names csv = names_text csv
front_text Nothing csv = []

-- beside a file, since both together have at most 40,000 bytes
unfoldable pub file_front : (csv file : List ℕ) → Front
file_front csv file = front_of (file_limit - length file) csv

unfoldable pub with_front : (csv file : List ℕ) → List ℕ
with_front csv file = front_text (file_front csv file) csv ++ file

unfoldable pub written_of : (csv file : List ℕ) → Written
written_of csv file = record { front = file_front csv file; len = length (with_front csv file) }
