-- The line of a conversion, and what is known of a refusal, in one line. Definitions only.
use Rattle.std.specs.Prelude.{cond, List, [], ◌∷◌, ◌++◌, ℕ, suc, ◌+◌, eqb, length, get_or}
use Rattle.files.specs.Sheet.{sheet_columns, sheet}
use Rattle.text.specs.Decimal.{decimal}
use Rattle.text.specs.Lines.{number_line, pair_line}
use Rattle.editions.specs.Rewritten.{Rewritten, Refused, Wrote}
use Rattle.editions.specs.Rewriting.{other_edition}

-- ---- the words

-- "edition "
abbrev pub EDITION : List ℕ
EDITION = 101 ∷ 100 ∷ 105 ∷ 116 ∷ 105 ∷ 111 ∷ 110 ∷ 32 ∷ []

-- "refused "
abbrev pub REFUSED : List ℕ
REFUSED = 114 ∷ 101 ∷ 102 ∷ 117 ∷ 115 ∷ 101 ∷ 100 ∷ 32 ∷ []

-- "sheet.wsh has "
abbrev pub SHEET_HAS : List ℕ
SHEET_HAS = 115 ∷ 104 ∷ 101 ∷ 101 ∷ 116 ∷ 46 ∷ 119 ∷ 115 ∷ 104 ∷ 32 ∷ 104 ∷ 97 ∷ 115 ∷ 32 ∷ []

-- " columns, not 1 to 64"
abbrev pub COLUMNS_RANGE : List ℕ
COLUMNS_RANGE = 32 ∷ 99 ∷ 111 ∷ 108 ∷ 117 ∷ 109 ∷ 110 ∷ 115 ∷ 44 ∷ 32 ∷ 110 ∷ 111 ∷ 116 ∷ 32 ∷ 49 ∷ 32 ∷ 116 ∷ 111 ∷ 32 ∷ 54 ∷ 52 ∷ []

-- "sheet.wsh, column "
abbrev pub SHEET_COLUMN : List ℕ
SHEET_COLUMN = 115 ∷ 104 ∷ 101 ∷ 101 ∷ 116 ∷ 46 ∷ 119 ∷ 115 ∷ 104 ∷ 44 ∷ 32 ∷ 99 ∷ 111 ∷ 108 ∷ 117 ∷ 109 ∷ 110 ∷ 32 ∷ []

-- ": the factor is "
abbrev pub FACTOR_IS : List ℕ
FACTOR_IS = 58 ∷ 32 ∷ 116 ∷ 104 ∷ 101 ∷ 32 ∷ 102 ∷ 97 ∷ 99 ∷ 116 ∷ 111 ∷ 114 ∷ 32 ∷ 105 ∷ 115 ∷ 32 ∷ []

-- ", not 1"
abbrev pub NOT_ONE : List ℕ
NOT_ONE = 44 ∷ 32 ∷ 110 ∷ 111 ∷ 116 ∷ 32 ∷ 49 ∷ []

-- "other.wsh would have "
abbrev pub OTHER_HAS : List ℕ
OTHER_HAS = 111 ∷ 116 ∷ 104 ∷ 101 ∷ 114 ∷ 46 ∷ 119 ∷ 115 ∷ 104 ∷ 32 ∷ 119 ∷ 111 ∷ 117 ∷ 108 ∷ 100 ∷ 32 ∷ 104 ∷ 97 ∷ 118 ∷ 101 ∷ 32 ∷ []

-- " bytes, more than 40000"
abbrev pub BYTES_LIMIT : List ℕ
BYTES_LIMIT = 32 ∷ 98 ∷ 121 ∷ 116 ∷ 101 ∷ 115 ∷ 44 ∷ 32 ∷ 109 ∷ 111 ∷ 114 ∷ 101 ∷ 32 ∷ 116 ∷ 104 ∷ 97 ∷ 110 ∷ 32 ∷ 52 ∷ 48 ∷ 48 ∷ 48 ∷ 48 ∷ []

-- ---- the line of a conversion: the edition and the bytes that were written, or the number that refuses

unfoldable pub edition_line : Rewritten → List ℕ
edition_line (Refused n) = number_line REFUSED n
edition_line (Wrote edition size) = pair_line EDITION edition size

-- ---- what is known of a refusal

-- how many factors are 1 before the first that is not
unfoldable pub first_other : List ℕ → ℕ
first_other [] = 0
first_other (f ∷ fs) = cond (eqb f 1) (suc (first_other fs)) 0

-- of a sheet that is refused by 13
unfoldable pub columns_line : List ℕ → List ℕ
columns_line s = SHEET_HAS ++ (decimal (sheet_columns s) ++ (COLUMNS_RANGE ++ (10 ∷ [])))

-- of a sheet that is refused by 47: the first such column, counted from 1, and its factor
unfoldable pub factor_line : List ℕ → List ℕ
factor_line s =
    let k = first_other (sheet s).factors in
    SHEET_COLUMN ++ (decimal (k + 1) ++ (FACTOR_IS ++ (decimal (get_or (sheet s).factors k 0) ++ (NOT_ONE ++ (10 ∷ [])))))

-- of a sheet that is refused by 48, as its other edition has more than 40,000 bytes
unfoldable pub size_line : List ℕ → List ℕ
size_line s = OTHER_HAS ++ (decimal (length (other_edition s)) ++ (BYTES_LIMIT ++ (10 ∷ [])))

-- of a sheet and the number that refuses its conversion into an output of 40,000 bytes: no line where the number alone is known
unfoldable pub edition_detail : (sheet : List ℕ) → (refusal : ℕ) → List ℕ
edition_detail s n = cond (eqb n 13) (columns_line s) (cond (eqb n 47) (factor_line s) (cond (eqb n 48) (size_line s) []))
