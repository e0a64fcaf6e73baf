-- The words of the lines about a fleet's CSV: what is wrong with it and where, once the names are found, and what stands in front of its book.
-- Definitions only.
use Rattle.std.specs.Prelude.{Bool, true, false, cond, not, List, [], ◌∷◌, ◌++◌, map, ℕ, eqb}
use Rattle.text.specs.Decimal.{decimal}
use Rattle.message_parts.specs.Parts.{COLON, COLUMN, RANGE_WORDS, shown, part}
use Rattle.csv_front_text.specs.declared.Front.{Front}
use Rattle.csv_front_text.specs.declared.Front.TheVariants.{Whole, Names, Nothing}
use Rattle.csv_book.specs.Books.{Made}

-- ---- the words

-- "fleet.csv"
abbrev pub FILE : List ℕ
FILE = 102 ∷ 108 ∷ 101 ∷ 101 ∷ 116 ∷ 46 ∷ 99 ∷ 115 ∷ 118 ∷ []

-- " line "
abbrev pub AT_LINE : List ℕ
AT_LINE = 32 ∷ 108 ∷ 105 ∷ 110 ∷ 101 ∷ 32 ∷ []

-- " has no name"
abbrev pub UNNAMED : List ℕ
UNNAMED = 32 ∷ 104 ∷ 97 ∷ 115 ∷ 32 ∷ 110 ∷ 111 ∷ 32 ∷ 110 ∷ 97 ∷ 109 ∷ 101 ∷ []

-- "more than "
abbrev pub MORE_THAN : List ℕ
MORE_THAN = 109 ∷ 111 ∷ 114 ∷ 101 ∷ 32 ∷ 116 ∷ 104 ∷ 97 ∷ 110 ∷ 32 ∷ []

-- " values"
abbrev pub VALUES : List ℕ
VALUES = 32 ∷ 118 ∷ 97 ∷ 108 ∷ 117 ∷ 101 ∷ 115 ∷ []

-- " of "
abbrev pub OF : List ℕ
OF = 32 ∷ 111 ∷ 102 ∷ 32 ∷ []

-- " is not a whole number"
abbrev pub NOT_WHOLE_WORDS : List ℕ
NOT_WHOLE_WORDS = 32 ∷ 105 ∷ 115 ∷ 32 ∷ 110 ∷ 111 ∷ 116 ∷ 32 ∷ 97 ∷ 32 ∷ 119 ∷ 104 ∷ 111 ∷ 108 ∷ 101 ∷ 32 ∷ 110 ∷ 117 ∷ 109 ∷ 98 ∷ 101 ∷ 114 ∷ []

-- "a field of more than 200 bytes"
abbrev pub LONG_WORDS : List ℕ
LONG_WORDS = 97 ∷ 32 ∷ 102 ∷ 105 ∷ 101 ∷ 108 ∷ 100 ∷ 32 ∷ 111 ∷ 102 ∷ 32 ∷ 109 ∷ 111 ∷ 114 ∷ 101 ∷ 32 ∷ 116 ∷ 104 ∷ 97 ∷ 110 ∷ 32 ∷ 50 ∷ 48 ∷ 48 ∷ 32 ∷ 98 ∷ 121 ∷ 116 ∷ 101 ∷ 115 ∷ []

-- "no column"
abbrev pub NO_COLUMN : List ℕ
NO_COLUMN = 110 ∷ 111 ∷ 32 ∷ 99 ∷ 111 ∷ 108 ∷ 117 ∷ 109 ∷ 110 ∷ []

-- "no boat"
abbrev pub NO_BOAT : List ℕ
NO_BOAT = 110 ∷ 111 ∷ 32 ∷ 98 ∷ 111 ∷ 97 ∷ 116 ∷ []

-- "the boat has no name"
abbrev pub BOAT_UNNAMED : List ℕ
BOAT_UNNAMED = 116 ∷ 104 ∷ 101 ∷ 32 ∷ 98 ∷ 111 ∷ 97 ∷ 116 ∷ 32 ∷ 104 ∷ 97 ∷ 115 ∷ 32 ∷ 110 ∷ 111 ∷ 32 ∷ 110 ∷ 97 ∷ 109 ∷ 101 ∷ []

-- "more than 64 columns"
abbrev pub COLUMNS_WORDS : List ℕ
COLUMNS_WORDS = 109 ∷ 111 ∷ 114 ∷ 101 ∷ 32 ∷ 116 ∷ 104 ∷ 97 ∷ 110 ∷ 32 ∷ 54 ∷ 52 ∷ 32 ∷ 99 ∷ 111 ∷ 108 ∷ 117 ∷ 109 ∷ 110 ∷ 115 ∷ []

-- "more than 256 boats"
abbrev pub BOATS_WORDS : List ℕ
BOATS_WORDS = 109 ∷ 111 ∷ 114 ∷ 101 ∷ 32 ∷ 116 ∷ 104 ∷ 97 ∷ 110 ∷ 32 ∷ 50 ∷ 53 ∷ 54 ∷ 32 ∷ 98 ∷ 111 ∷ 97 ∷ 116 ∷ 115 ∷ []

-- "more than 200000 bytes"
abbrev pub BIG_WORDS : List ℕ
BIG_WORDS = 109 ∷ 111 ∷ 114 ∷ 101 ∷ 32 ∷ 116 ∷ 104 ∷ 97 ∷ 110 ∷ 32 ∷ 50 ∷ 48 ∷ 48 ∷ 48 ∷ 48 ∷ 48 ∷ 32 ∷ 98 ∷ 121 ∷ 116 ∷ 101 ∷ 115 ∷ []

-- "a buffer of fewer than 40000 bytes"
abbrev pub ROOM_WORDS : List ℕ
ROOM_WORDS = 97 ∷ 32 ∷ 98 ∷ 117 ∷ 102 ∷ 102 ∷ 101 ∷ 114 ∷ 32 ∷ 111 ∷ 102 ∷ 32 ∷ 102 ∷ 101 ∷ 119 ∷ 101 ∷ 114 ∷ 32 ∷ 116 ∷ 104 ∷ 97 ∷ 110 ∷ 32 ∷ 52 ∷ 48 ∷ 48 ∷ 48 ∷ 48 ∷ 32 ∷ 98 ∷ 121 ∷ 116 ∷ 101 ∷ 115 ∷ []

-- "text after a closing quote"
abbrev pub STRAY_WORDS : List ℕ
STRAY_WORDS = 116 ∷ 101 ∷ 120 ∷ 116 ∷ 32 ∷ 97 ∷ 102 ∷ 116 ∷ 101 ∷ 114 ∷ 32 ∷ 97 ∷ 32 ∷ 99 ∷ 108 ∷ 111 ∷ 115 ∷ 105 ∷ 110 ∷ 103 ∷ 32 ∷ 113 ∷ 117 ∷ 111 ∷ 116 ∷ 101 ∷ []

-- "a quote that is not closed"
abbrev pub OPEN_WORDS : List ℕ
OPEN_WORDS = 97 ∷ 32 ∷ 113 ∷ 117 ∷ 111 ∷ 116 ∷ 101 ∷ 32 ∷ 116 ∷ 104 ∷ 97 ∷ 116 ∷ 32 ∷ 105 ∷ 115 ∷ 32 ∷ 110 ∷ 111 ∷ 116 ∷ 32 ∷ 99 ∷ 108 ∷ 111 ∷ 115 ∷ 101 ∷ 100 ∷ []

-- "no fault"
abbrev pub NONE_WORDS : List ℕ
NONE_WORDS = 110 ∷ 111 ∷ 32 ∷ 102 ∷ 97 ∷ 117 ∷ 108 ∷ 116 ∷ []

-- ---- the place

unfoldable pub place : (line : ℕ) → List ℕ
place l = cond (eqb l 0) [] (AT_LINE ++ decimal l)

-- ---- what is wrong, by the number of the fault

unfoldable pub other_words : (fault : ℕ) → List ℕ
other_words f =
    cond (eqb f 9) NO_BOAT
    (cond (eqb f 10) BIG_WORDS
    (cond (eqb f 11) ROOM_WORDS
    (cond (eqb f 260) STRAY_WORDS
    (cond (eqb f 261) OPEN_WORDS NONE_WORDS))))

unfoldable pub plain_words : (fault : ℕ) → List ℕ
plain_words f =
    cond (eqb f 1) LONG_WORDS
    (cond (eqb f 2) BOAT_UNNAMED
    (cond (eqb f 3) NO_COLUMN
    (cond (eqb f 4) COLUMNS_WORDS
    (cond (eqb f 8) BOATS_WORDS (other_words f)))))

-- fewer values than columns
unfoldable pub few_words : (field columns : ℕ) → List ℕ
few_words p c = decimal p ++ (OF ++ (decimal c ++ VALUES))

unfoldable pub unnamed_words : (field : ℕ) → List ℕ
unnamed_words p = COLUMN ++ (decimal p ++ UNNAMED)

unfoldable pub many_words : (columns : ℕ) → List ℕ
many_words c = MORE_THAN ++ (decimal c ++ VALUES)

-- with what stands in place of a value
unfoldable pub words : (fault field columns : ℕ) → (value : List ℕ) → List ℕ
words f p c value =
    cond (eqb f 6) (map shown value ++ NOT_WHOLE_WORDS)
    (cond (eqb f 7) (map shown value ++ RANGE_WORDS)
    (cond (eqb f 5) (few_words p c)
    (cond (eqb f 2) (cond (eqb c 0) (unnamed_words p) (plain_words f))
    (cond (eqb f 4) (cond (eqb c 0) (plain_words f) (many_words c)) (plain_words f)))))

-- ---- the line, and what is looked for in the CSV for it

-- past the line of the column names, the boat's name once its field has ended
unfoldable pub wants_boat : (fault field columns : ℕ) → Bool
wants_boat f p c = cond (eqb c 0) false (cond (eqb p 0) (eqb f 5) true)

-- the column of a value that is wrong in itself
unfoldable pub wants_column : (fault field columns : ℕ) → Bool
wants_column f p c = cond (eqb c 0) false (cond (eqb p 0) false (cond (eqb f 4) false (not (eqb f 5))))

-- what is no whole number, or out of range
unfoldable pub wants_value : (fault : ℕ) → Bool
wants_value f = cond (eqb f 6) true (eqb f 7)

unfoldable pub fault_line : Made → (boat column value : List ℕ) → List ℕ
fault_line m boat column value =
    FILE ++ (place m.line ++ (part boat ++ (part column ++ (COLON ++ (words m.fault m.field m.columns value ++ (10 ∷ []))))))

-- ---- the front text of a book

-- "front csv", "front names", "front nothing"
unfoldable pub front_line : Front → List ℕ
front_line Whole = 102 ∷ 114 ∷ 111 ∷ 110 ∷ 116 ∷ 32 ∷ 99 ∷ 115 ∷ 118 ∷ 10 ∷ []
front_line Names = 102 ∷ 114 ∷ 111 ∷ 110 ∷ 116 ∷ 32 ∷ 110 ∷ 97 ∷ 109 ∷ 101 ∷ 115 ∷ 10 ∷ []
front_line Nothing = 102 ∷ 114 ∷ 111 ∷ 110 ∷ 116 ∷ 32 ∷ 110 ∷ 111 ∷ 116 ∷ 104 ∷ 105 ∷ 110 ∷ 103 ∷ 10 ∷ []
