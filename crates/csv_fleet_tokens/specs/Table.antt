-- A fleet read from the tokens of a CSV: what was read so far, and what each token adds. The first fault stays.
-- The first line has the column names, so that before its end there are no columns; the line after it has units where its first field is `unit`;
-- every other line is a boat, its name and its values. Definitions only.
use Rattle.std.specs.Prelude.{Bool, false, cond, List, [], ◌∷◌, ℕ, ◌+◌, ltb, eqb}
use Rattle.csv_bytes.specs.Cells.{no_bytes, with_byte, is_number, progress}
use Rattle.csv_bytes.specs.declared.Cell.{Cell}
use Rattle.csv_fleet_tokens.specs.declared.Table.{Table as Read}
use Rattle.csv_fleet_tokens.specs.Faults.{option_number}

-- what was read, with the number of its first fault
pub record Table : Type 0 where
  pub field : ℕ
  pub columns : ℕ
  pub boats : ℕ
  pub units : Bool
  pub cell : Cell
  pub word : ℕ
  pub fault : ℕ

-- of a table of the code
abbrev pub numbered : Read → Table
numbered t =
    record { field = t.field; columns = t.columns; boats = t.boats; units = t.units; cell = t.cell; word = t.word; fault = option_number t.fault }

-- what is wrong, besides a token that is
abbrev pub LONG : ℕ
LONG = 1

abbrev pub NAMELESS : ℕ
NAMELESS = 2

abbrev pub COLUMNLESS : ℕ
COLUMNLESS = 3

abbrev pub MANY : ℕ
MANY = 4

abbrev pub FEW : ℕ
FEW = 5

abbrev pub NOT_WHOLE : ℕ
NOT_WHOLE = 6

abbrev pub OUT_OF_RANGE : ℕ
OUT_OF_RANGE = 7

abbrev pub BOATS : ℕ
BOATS = 8

abbrev pub BOATLESS : ℕ
BOATLESS = 9

abbrev pub start : Table
start = record { field = 0; columns = 0; boats = 0; units = false; cell = no_bytes; word = 5; fault = 0 }

abbrev pub faulty : Table → ℕ → Table
faulty t f = record { field = t.field; columns = t.columns; boats = t.boats; units = t.units; cell = t.cell; word = t.word; fault = f }

-- ---- a byte of a field, of which a field has at most 200

-- `unit`. Of the first field of a line that may have units, `word` counts the bytes that begin it, and is 5 where there are others
abbrev pub UNIT : List ℕ
UNIT = 117 ∷ 110 ∷ 105 ∷ 116 ∷ []

unfoldable pub with_text : Table → ℕ → Table
with_text t k =
    cond (ltb t.cell.size 200)
    (record { field = t.field; columns = t.columns; boats = t.boats; units = t.units; cell = with_byte t.cell k; word = progress UNIT t.word k; fault = t.fault })
    (faulty t LONG)

-- ---- the end of a field

unfoldable pub number_fault : Cell → ℕ
number_fault c = cond (is_number c) (cond (ltb 2000 c.magnitude) OUT_OF_RANGE 0) NOT_WHOLE

unfoldable pub name_fault : Cell → ℕ
name_fault c = cond (eqb c.size 0) NAMELESS 0

-- a column's name, a unit, a value, a boat's name
unfoldable pub field_fault : Table → ℕ
field_fault t =
    cond (eqb t.columns 0) (name_fault t.cell)
    (cond t.units 0
    (cond (eqb t.field 0) (cond (ltb t.boats 256) (name_fault t.cell) BOATS) (number_fault t.cell)))

-- how many fields a line may have after its first
unfoldable pub limit : (columns : ℕ) → ℕ
limit c = cond (eqb c 0) 64 c

-- whether a line has units, once its first field has ended
unfoldable pub units_after : Table → Bool
units_after t = cond (eqb t.field 0) (eqb t.word 4) t.units

unfoldable pub next_field : Table → Table
next_field t = record { field = t.field + 1; columns = t.columns; boats = t.boats; units = units_after t; cell = no_bytes; word = 0; fault = 0 }

unfoldable pub field_ended : Table → Table
field_ended t =
    cond (ltb t.field (limit t.columns))
    (cond (eqb (field_fault t) 0) (next_field t) (faulty t (field_fault t)))
    (faulty t MANY)

-- ---- the end of a line

unfoldable pub end_fault : Table → ℕ
end_fault t = cond (eqb t.columns 0) (cond (eqb t.field 0) COLUMNLESS 0) (cond (eqb t.field t.columns) 0 FEW)

unfoldable pub columns_after : Table → ℕ
columns_after t = cond (eqb t.columns 0) t.field t.columns

unfoldable pub boats_after : Table → ℕ
boats_after t = cond (eqb t.columns 0) t.boats (cond t.units t.boats (t.boats + 1))

-- only the line after that of the names may have units
unfoldable pub word_after : (columns : ℕ) → ℕ
word_after c = cond (eqb c 0) 0 5

unfoldable pub next_line : Table → Table
next_line t = record { field = 0; columns = columns_after t; boats = boats_after t; units = false; cell = no_bytes; word = word_after t.columns; fault = 0 }

unfoldable pub whole_line_ended : Table → Table
whole_line_ended t = cond (eqb (field_fault t) 0) (cond (eqb (end_fault t) 0) (next_line t) (faulty t (end_fault t))) (faulty t (field_fault t))

-- a line without bytes is passed over
unfoldable pub line_ended : Table → Table
line_ended t = cond (eqb t.field 0) (cond (eqb t.cell.size 0) t (whole_line_ended t)) (whole_line_ended t)

-- ---- the end of the text

unfoldable pub finished : Table → Table
finished t = cond (eqb t.fault 0) (cond (eqb t.boats 0) (faulty t BOATLESS) t) t

-- ---- a token: a byte, the end of a field (256), of a line (257), of the text (258), nothing (259), what is wrong

unfoldable pub consumed : Table → ℕ → Table
consumed t k =
    cond (ltb k 256) (with_text t k)
    (cond (eqb k 256) (field_ended t)
    (cond (eqb k 257) (line_ended t) (cond (eqb k 258) (finished (line_ended t)) (cond (eqb k 259) t (faulty t k)))))

unfoldable pub after : Table → ℕ → Table
after t k = cond (eqb t.fault 0) (consumed t k) t
