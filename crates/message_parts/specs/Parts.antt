-- What lines about files share: a name as one line shows it, a name behind a comma, and the words of a value out of range. Definitions only.
use Rattle.std.specs.Prelude.{cond, List, [], ◌∷◌, ◌++◌, map, ℕ, ltb, eqb, length}

-- ", "
abbrev pub THEN : List ℕ
THEN = 44 ∷ 32 ∷ []

-- ": "
abbrev pub COLON : List ℕ
COLON = 58 ∷ 32 ∷ []

-- "column "
abbrev pub COLUMN : List ℕ
COLUMN = 99 ∷ 111 ∷ 108 ∷ 117 ∷ 109 ∷ 110 ∷ 32 ∷ []

-- " is not from -2000 to 2000"
abbrev pub RANGE_WORDS : List ℕ
RANGE_WORDS = 32 ∷ 105 ∷ 115 ∷ 32 ∷ 110 ∷ 111 ∷ 116 ∷ 32 ∷ 102 ∷ 114 ∷ 111 ∷ 109 ∷ 32 ∷ 45 ∷ 50 ∷ 48 ∷ 48 ∷ 48 ∷ 32 ∷ 116 ∷ 111 ∷ 32 ∷ 50 ∷ 48 ∷ 48 ∷ 48 ∷ []

-- a name as one line shows it: a space for each byte below 32
abbrev pub shown : ℕ → ℕ
shown b = cond (ltb b 32) 32 b

unfoldable pub part : List ℕ → List ℕ
part name = cond (eqb (length name) 0) [] (THEN ++ map shown name)
