-- What is known of a refusal of a fleet book or a sheet, in one line: the place of the first value out of range, or both numbers of columns.
-- Boats and columns have the names of the CSV in front of the book, or else numbers from 1. Definitions only.
use Rattle.std.specs.Prelude.{Bool, false, cond, List, [], ◌∷◌, ◌++◌, ℕ, suc, ◌+◌, ◌*◌, ◌/◌, ◌%◌, eqb, length, take, get_or, ℤ, pos}
use Rattle.files.specs.Bytes.{values, same, in_range, body}
use Rattle.files.specs.Book.{boats, columns, rows_offset}
use Rattle.files.specs.Sheet.{sheet, sheet_columns, files_refusal}
use Rattle.text.specs.Decimal.{decimal}
use Rattle.message_parts.specs.Parts.{THEN, COLON, COLUMN, RANGE_WORDS, part}
use Rattle.csv_fleet_tokens.specs.Table.{UNIT}
use Rattle.csv_fleet_round_trip.specs.Writing.{figures}
use Rattle.csv_cells.specs.Cells.{last_place, cell_text, width}

-- ---- the words

-- "fleet.wbk"
abbrev pub BOOK : List ℕ
BOOK = 102 ∷ 108 ∷ 101 ∷ 101 ∷ 116 ∷ 46 ∷ 119 ∷ 98 ∷ 107 ∷ []

-- "sheet.wsh"
abbrev pub SHEET : List ℕ
SHEET = 115 ∷ 104 ∷ 101 ∷ 101 ∷ 116 ∷ 46 ∷ 119 ∷ 115 ∷ 104 ∷ []

-- "boat "
abbrev pub BOAT : List ℕ
BOAT = 98 ∷ 111 ∷ 97 ∷ 116 ∷ 32 ∷ []

-- "sheet.wsh has "
abbrev pub SHEET_HAS : List ℕ
SHEET_HAS = 115 ∷ 104 ∷ 101 ∷ 101 ∷ 116 ∷ 46 ∷ 119 ∷ 115 ∷ 104 ∷ 32 ∷ 104 ∷ 97 ∷ 115 ∷ 32 ∷ []

-- " columns, fleet.wbk "
abbrev pub COLUMNS_BOOK : List ℕ
COLUMNS_BOOK = 32 ∷ 99 ∷ 111 ∷ 108 ∷ 117 ∷ 109 ∷ 110 ∷ 115 ∷ 44 ∷ 32 ∷ 102 ∷ 108 ∷ 101 ∷ 101 ∷ 116 ∷ 46 ∷ 119 ∷ 98 ∷ 107 ∷ 32 ∷ []

-- ---- names

-- the text before a book's rows
unfoldable pub book_front : List ℕ → List ℕ
book_front b = take (rows_offset b) b

-- the row of the first boat in a CSV: the second, or the third where the second has units
unfoldable pub first_boat : List ℕ → ℕ
first_boat csv = cond (same (cell_text 1 0 csv) UNIT) 2 1

-- whether a text is a CSV without a fault with a row for each boat and a name for each column
unfoldable pub names_all : (csv : List ℕ) → (boats columns : ℕ) → Bool
names_all csv n c = cond (eqb (last_place csv).fault 0) (cond (eqb (last_place csv).row (first_boat csv + n)) (eqb (width 0 csv) (c + 1)) false) false

-- the CSV in front of a book, nothing where the text there is none or names others
unfoldable pub names_csv : (book : List ℕ) → List ℕ
names_csv b = cond (names_all (book_front b) (boats b) (columns b)) (book_front b) []

-- boats and columns count from 0
unfoldable pub boat_name : (i : ℕ) → List ℕ → List ℕ
boat_name i csv = cell_text (first_boat csv + i) 0 csv

unfoldable pub column_name : (j : ℕ) → List ℕ → List ℕ
column_name j csv = cell_text 0 (j + 1) csv

-- behind a comma, a name, or a word and a number from 1 where the name has no bytes
unfoldable pub called : (word : List ℕ) → (k : ℕ) → (name : List ℕ) → List ℕ
called word k name = cond (eqb (length name) 0) (THEN ++ (word ++ decimal (k + 1))) (part name)

-- ---- the first value out of range

-- how many values are in range before it
unfoldable pub first_out : List ℤ → ℕ
first_out [] = 0
first_out (x ∷ xs) = cond (in_range x) (suc (first_out xs)) 0

unfoldable pub out_words : ℤ → List ℕ
out_words v = COLON ++ (figures v ++ (RANGE_WORDS ++ (10 ∷ [])))

-- the values of a book, boat after boat
unfoldable pub book_values : List ℕ → List ℤ
book_values b = values (boats b * columns b) (body 12 (2 * (boats b * columns b)) b)

-- ---- the lines

-- of a book that is refused by 6: k values are in range before the first that is out
unfoldable pub value_line : (k : ℕ) → (book : List ℕ) → List ℕ
value_line k b =
    BOOK ++
    (called BOAT (k / columns b) (boat_name (k / columns b) (names_csv b)) ++
    (called COLUMN (k % columns b) (column_name (k % columns b) (names_csv b)) ++ out_words (get_or (book_values b) k (pos 0))))

-- of a sheet that is refused by 17, with the column's name from the book
unfoldable pub target_line : (k : ℕ) → (book sheet : List ℕ) → List ℕ
target_line k b s = SHEET ++ (called COLUMN k (column_name k (names_csv b)) ++ out_words (get_or (sheet s).target k (pos 0)))

-- of a sheet that is refused by 13
unfoldable pub columns_line : (book sheet : List ℕ) → List ℕ
columns_line b s = SHEET_HAS ++ (decimal (sheet_columns s) ++ (COLUMNS_BOOK ++ (decimal (columns b) ++ (10 ∷ []))))

unfoldable pub line_of : (book sheet : List ℕ) → (refusal : ℕ) → List ℕ
line_of b s r =
    cond (eqb r 6) (value_line (first_out (book_values b)) b)
    (cond (eqb r 13) (columns_line b s) (cond (eqb r 17) (target_line (first_out (sheet s).target) b s) []))

-- nothing where another number or none refuses the files
unfoldable pub detail : (book sheet : List ℕ) → (refusal : ℕ) → List ℕ
detail b s r = cond (eqb (files_refusal b s) r) (line_of b s r) []
