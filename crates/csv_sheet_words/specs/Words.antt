-- The words of the lines about a sheet's CSV: what is wrong with it and where, once the names are found. Definitions only.
use Rattle.std.specs.Prelude.{Bool, true, false, cond, List, [], ◌∷◌, ◌++◌, map, ℕ, ◌-◌, ltb, eqb}
use Rattle.files.specs.Bytes.{between}
use Rattle.message_parts.specs.Parts.{COLON, COLUMN, RANGE_WORDS, shown, part}
use Rattle.csv_book_words.specs.Words.{FILE, MORE_THAN, NONE_WORDS, NO_COLUMN, NOT_WHOLE_WORDS, UNNAMED, place, unnamed_words, many_words, plain_words}
use Rattle.csv_sheet.specs.Outcomes.{Outcome}

-- ---- the words

-- "sheet.csv"
abbrev pub SHEET_FILE : List ℕ
SHEET_FILE = 115 ∷ 104 ∷ 101 ∷ 101 ∷ 116 ∷ 46 ∷ 99 ∷ 115 ∷ 118 ∷ []

-- "no value"
abbrev pub NO_VALUE : List ℕ
NO_VALUE = 110 ∷ 111 ∷ 32 ∷ 118 ∷ 97 ∷ 108 ∷ 117 ∷ 101 ∷ []

-- " is not from "
abbrev pub NOT_FROM : List ℕ
NOT_FROM = 32 ∷ 105 ∷ 115 ∷ 32 ∷ 110 ∷ 111 ∷ 116 ∷ 32 ∷ 102 ∷ 114 ∷ 111 ∷ 109 ∷ 32 ∷ []

-- " is not from 0 to 64"
abbrev pub FACTOR_RANGE : List ℕ
FACTOR_RANGE = NOT_FROM ++ (48 ∷ 32 ∷ 116 ∷ 111 ∷ 32 ∷ 54 ∷ 52 ∷ [])

-- " is not from 1 to 360"
abbrev pub STEPS_RANGE : List ℕ
STEPS_RANGE = NOT_FROM ++ (49 ∷ 32 ∷ 116 ∷ 111 ∷ 32 ∷ 51 ∷ 54 ∷ 48 ∷ [])

-- " is not from 0 to 1024000000"
abbrev pub TOLERANCE_RANGE : List ℕ
TOLERANCE_RANGE = NOT_FROM ++ (48 ∷ 32 ∷ 116 ∷ 111 ∷ 32 ∷ 49 ∷ 48 ∷ 50 ∷ 52 ∷ 48 ∷ 48 ∷ 48 ∷ 48 ∷ 48 ∷ 48 ∷ [])

-- " is not from 0 to 32000"
abbrev pub EACH_RANGE : List ℕ
EACH_RANGE = NOT_FROM ++ (48 ∷ 32 ∷ 116 ∷ 111 ∷ 32 ∷ 51 ∷ 50 ∷ 48 ∷ 48 ∷ 48 ∷ [])

-- "more than one value"
abbrev pub MANY_FOR_ONE : List ℕ
MANY_FOR_ONE = MORE_THAN ++ (111 ∷ 110 ∷ 101 ∷ 32 ∷ 118 ∷ 97 ∷ 108 ∷ 117 ∷ 101 ∷ [])

-- "this line again"
abbrev pub AGAIN : List ℕ
AGAIN = 116 ∷ 104 ∷ 105 ∷ 115 ∷ 32 ∷ 108 ∷ 105 ∷ 110 ∷ 101 ∷ 32 ∷ 97 ∷ 103 ∷ 97 ∷ 105 ∷ 110 ∷ []

-- "a second hull, or a word that is not known"
abbrev pub SECOND_HULL : List ℕ
SECOND_HULL = 97 ∷ 32 ∷ 115 ∷ 101 ∷ 99 ∷ 111 ∷ 110 ∷ 100 ∷ 32 ∷ 104 ∷ 117 ∷ 108 ∷ 108 ∷ 44 ∷ 32 ∷ 111 ∷ 114 ∷ 32 ∷ 97 ∷ 32 ∷ 119 ∷ 111 ∷ 114 ∷ 100 ∷ 32 ∷ 116 ∷ 104 ∷ 97 ∷ 116 ∷ 32 ∷ 105 ∷ 115 ∷ 32 ∷ 110 ∷ 111 ∷ 116 ∷ 32 ∷ 107 ∷ 110 ∷ 111 ∷ 119 ∷ 110 ∷ []

-- "the hull has no name"
abbrev pub HULL_UNNAMED : List ℕ
HULL_UNNAMED = (116 ∷ 104 ∷ 101 ∷ 32 ∷ 104 ∷ 117 ∷ 108 ∷ 108 ∷ []) ++ UNNAMED

-- "more than 65 fields"
abbrev pub FIELDS_WORDS : List ℕ
FIELDS_WORDS = MORE_THAN ++ (54 ∷ 53 ∷ 32 ∷ 102 ∷ 105 ∷ 101 ∷ 108 ∷ 100 ∷ 115 ∷ [])

-- "more than 39000 bytes"
abbrev pub BYTES_WORDS : List ℕ
BYTES_WORDS = MORE_THAN ++ (51 ∷ 57 ∷ 48 ∷ 48 ∷ 48 ∷ 32 ∷ 98 ∷ 121 ∷ 116 ∷ 101 ∷ 115 ∷ [])

-- "more than 16 lines"
abbrev pub LINES_WORDS : List ℕ
LINES_WORDS = MORE_THAN ++ (49 ∷ 54 ∷ 32 ∷ 108 ∷ 105 ∷ 110 ∷ 101 ∷ 115 ∷ [])

-- "no hull"
abbrev pub NO_HULL : List ℕ
NO_HULL = 110 ∷ 111 ∷ 32 ∷ 104 ∷ 117 ∷ 108 ∷ 108 ∷ []

-- "no line "steps""
abbrev pub NO_STEPS : List ℕ
NO_STEPS = 110 ∷ 111 ∷ 32 ∷ 108 ∷ 105 ∷ 110 ∷ 101 ∷ 32 ∷ 34 ∷ 115 ∷ 116 ∷ 101 ∷ 112 ∷ 115 ∷ 34 ∷ []

-- "no line "tolerance""
abbrev pub NO_TOLERANCE : List ℕ
NO_TOLERANCE = 110 ∷ 111 ∷ 32 ∷ 108 ∷ 105 ∷ 110 ∷ 101 ∷ 32 ∷ 34 ∷ 116 ∷ 111 ∷ 108 ∷ 101 ∷ 114 ∷ 97 ∷ 110 ∷ 99 ∷ 101 ∷ 34 ∷ []

-- "the factors do not total 1 to 64"
abbrev pub TOTAL_WORDS : List ℕ
TOTAL_WORDS = 116 ∷ 104 ∷ 101 ∷ 32 ∷ 102 ∷ 97 ∷ 99 ∷ 116 ∷ 111 ∷ 114 ∷ 115 ∷ 32 ∷ 100 ∷ 111 ∷ 32 ∷ 110 ∷ 111 ∷ 116 ∷ 32 ∷ 116 ∷ 111 ∷ 116 ∷ 97 ∷ 108 ∷ 32 ∷ 49 ∷ 32 ∷ 116 ∷ 111 ∷ 32 ∷ 54 ∷ 52 ∷ []

-- "a tolerance above 1024000000"
abbrev pub ABOVE_WORDS : List ℕ
ABOVE_WORDS = 97 ∷ 32 ∷ 116 ∷ 111 ∷ 108 ∷ 101 ∷ 114 ∷ 97 ∷ 110 ∷ 99 ∷ 101 ∷ 32 ∷ 97 ∷ 98 ∷ 111 ∷ 118 ∷ 101 ∷ 32 ∷ 49 ∷ 48 ∷ 50 ∷ 52 ∷ 48 ∷ 48 ∷ 48 ∷ 48 ∷ 48 ∷ 48 ∷ []

-- "" twice"
abbrev pub TWICE : List ℕ
TWICE = 34 ∷ 32 ∷ 116 ∷ 119 ∷ 105 ∷ 99 ∷ 101 ∷ []

-- "" is not in fleet.csv"
abbrev pub NOT_IN_FLEET : List ℕ
NOT_IN_FLEET = 34 ∷ 32 ∷ 105 ∷ 115 ∷ 32 ∷ 110 ∷ 111 ∷ 116 ∷ 32 ∷ 105 ∷ 110 ∷ 32 ∷ 102 ∷ 108 ∷ 101 ∷ 101 ∷ 116 ∷ 46 ∷ 99 ∷ 115 ∷ 118 ∷ []

-- ---- what is wrong in a line, by the number of the fault

-- from where to where the numbers of a row go, by its kind
unfoldable pub range_words : (kind : ℕ) → List ℕ
range_words k =
    cond (eqb k 0) RANGE_WORDS
    (cond (eqb k 2) FACTOR_RANGE
    (cond (eqb k 3) STEPS_RANGE
    (cond (eqb k 4) TOLERANCE_RANGE EACH_RANGE)))

-- more values than the row has numbers: field p is the first of them
unfoldable pub beyond_words : (field : ℕ) → List ℕ
beyond_words p = cond (ltb p 3) MANY_FOR_ONE (many_words (p - 1))

-- a hull stands for any word that is not known
unfoldable pub again_words : (kind : ℕ) → List ℕ
again_words k = cond (eqb k 0) SECOND_HULL AGAIN

-- of a hull, or of a column
unfoldable pub nameless_words : (field : ℕ) → List ℕ
nameless_words p = cond (eqb p 0) HULL_UNNAMED (unnamed_words p)

unfoldable pub missing_words : (fault : ℕ) → List ℕ
missing_words f =
    cond (eqb f 15) NO_HULL
    (cond (eqb f 16) NO_STEPS
    (cond (eqb f 17) NO_TOLERANCE (plain_words f)))

unfoldable pub limit_words : (fault : ℕ) → List ℕ
limit_words f =
    cond (eqb f 4) FIELDS_WORDS
    (cond (eqb f 10) BYTES_WORDS
    (cond (eqb f 13) LINES_WORDS
    (cond (eqb f 22) TOTAL_WORDS
    (cond (eqb f 23) ABOVE_WORDS (missing_words f)))))

-- with what stands in place of a value
unfoldable pub words : (fault field kind : ℕ) → (value : List ℕ) → List ℕ
words f p k value =
    cond (eqb f 5) NO_VALUE
    (cond (eqb f 6) (map shown value ++ NOT_WHOLE_WORDS)
    (cond (eqb f 7) (map shown value ++ range_words k)
    (cond (eqb f 24) (beyond_words p)
    (cond (eqb f 14) (again_words k)
    (cond (eqb f 2) (nameless_words p) (limit_words f))))))

-- ---- the line of a fault in a row, or of the whole CSV, and what is looked for in the CSV for it

-- whether a value is wrong
unfoldable pub of_value : (fault : ℕ) → Bool
of_value f = between 5 7 f

-- a value, a row that stands twice, too many values: the first field of the row is shown
unfoldable pub wants_row : (fault : ℕ) → Bool
wants_row f = cond (of_value f) true (cond (eqb f 14) true (eqb f 24))

-- a value of a hull or of its factors: the column's name is shown
unfoldable pub wants_column : (fault kind : ℕ) → Bool
wants_column f k = cond (of_value f) (cond (eqb k 0) true (eqb k 2)) false

unfoldable pub row_line : Outcome → (kind : ℕ) → (row column value : List ℕ) → List ℕ
row_line m k row column value =
    SHEET_FILE ++ (place m.line ++ (part row ++ (part column ++ (COLON ++ (words m.fault m.field k value ++ (10 ∷ []))))))

-- of a number that no fault has
unfoldable pub no_fault : (line : ℕ) → List ℕ
no_fault l = SHEET_FILE ++ (place l ++ (COLON ++ (NONE_WORDS ++ (10 ∷ []))))

-- ---- the line of a column: 18 missing, 19 twice, 20 not in the fleet, 21 twice in the fleet

-- its name follows
abbrev pub COLUMN_OPEN : List ℕ
COLUMN_OPEN = COLON ++ (COLUMN ++ (34 ∷ []))

unfoldable pub opening : (fault : ℕ) → List ℕ
opening f =
    cond (eqb f 18) (SHEET_FILE ++ (COLON ++ (NO_COLUMN ++ (32 ∷ 34 ∷ []))))
    (cond (eqb f 21) (FILE ++ COLUMN_OPEN) (SHEET_FILE ++ COLUMN_OPEN))

unfoldable pub closing : (fault : ℕ) → List ℕ
closing f = cond (eqb f 18) (34 ∷ []) (cond (eqb f 20) NOT_IN_FLEET TWICE)

unfoldable pub column_line : (fault : ℕ) → (name : List ℕ) → List ℕ
column_line f name = opening f ++ (map shown name ++ (closing f ++ (10 ∷ [])))
