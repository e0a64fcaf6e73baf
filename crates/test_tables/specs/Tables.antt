-- The lines, names and fields of a table of cases, and the bytes of its fields. Definitions only.
use Rattle.std.specs.Prelude.{cond, List, [], ◌∷◌, ◌++◌, ℕ, suc, ◌+◌, ◌*◌, ◌%◌, eqb, length, get_or, take, drop}
use Rattle.files.specs.Bytes.{number_bytes}

-- how many bytes stand before the first `mark`: all where there is none
unfoldable pub before : (mark : ℕ) → List ℕ → ℕ
before mark [] = 0
before mark (x ∷ xs) = cond (eqb x mark) 0 (suc (before mark xs))

-- the bytes that stand before the first `mark`
abbrev pub until : (mark : ℕ) → List ℕ → List ℕ
until mark l = take (before mark l) l

-- what stands behind the first place of a letter, up to a space
abbrev pub word : (letter : ℕ) → (line : List ℕ) → List ℕ
word letter line = until 32 (drop (suc (before letter line)) line)

-- the number that decimal digits say after a number before them
unfoldable pub digits_after : (sum : ℕ) → List ℕ → ℕ
digits_after sum [] = sum
digits_after sum (d ∷ ds) = digits_after (sum % 1000000000000 * 10 + d % 16) ds

-- the number behind a letter, or `other` where there is none
unfoldable pub field : (line : List ℕ) → (letter other : ℕ) → ℕ
field line letter other = cond (eqb (length (word letter line)) 0) other (digits_after 0 (word letter line))

-- the fields of the letters, each in so many bytes as its digit in `sizes` says; what the line does not have is taken from `others`
unfoldable pub fields : (line others letters sizes : List ℕ) → List ℕ
fields line others [] sizes = []
fields line others (l ∷ ls) sizes = number_bytes (get_or sizes 0 0 % 16) (field line l (field others l 0)) ++ fields line others ls (drop 1 sizes)
