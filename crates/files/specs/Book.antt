-- Fleet books: a boat is a row of values, one for each column; a fleet book holds the rows of all boats.
-- Body: the rows, boat 0 first, columns in order, 2 bytes a value.
-- Trailer, 12 bytes: back count (4), boats (2), columns (2), the letters WBK1.
use Rattle.std.specs.Prelude.{Bool, true, ◌&&◌, not, cond, List, [], ◌∷◌, ℕ, zero, suc, ◌+◌, ◌*◌, ◌≤◌, length, drop, ℤ}
use Rattle.files.specs.Bytes.{number, values, same, between, all_in_range, length_in_range, trailer, body_offset, body, body_refusal}

unfoldable pub boats : List ℕ → ℕ
boats b = number 4 2 (trailer 12 b)

unfoldable pub columns : List ℕ → ℕ
columns b = number 6 2 (trailer 12 b)

-- so many rows, each of so many columns
unfoldable pub rows_from : (count columns : ℕ) → List ℕ → List (List ℤ)
rows_from zero c bs = []
rows_from (suc n) c bs = values c bs ∷ rows_from n c (drop (2 * c) bs)

-- that the file holds as many bytes as its counts ask
abbrev pub BookWhole : List ℕ → Type 0
BookWhole b = 2 * (boats b * columns b) + 12 ≤ length b

-- the offset of the first row
abbrev pub rows_offset : List ℕ → ℕ
rows_offset b = body_offset 12 (2 * (boats b * columns b)) b

unfoldable pub rows : List ℕ → List (List ℤ)
rows b = rows_from (boats b) (columns b) (body 12 (2 * (boats b * columns b)) b)

unfoldable pub all_rows_in_range : List (List ℤ) → Bool
all_rows_in_range [] = true
all_rows_in_range (v ∷ vs) = all_in_range v && all_rows_in_range vs

abbrev pub WBK1 : List ℕ
WBK1 = 87 ∷ 66 ∷ 75 ∷ 49 ∷ []

-- the first refusal, 1 to 6, that applies to a fleet book; 0 if none does
unfoldable pub book_refusal : List ℕ → ℕ
book_refusal b =
    cond (not (length_in_range 12 b)) 1
    (cond (not (same (drop 8 (trailer 12 b)) WBK1)) 2
    (cond (not (between 1 256 (boats b))) 3
    (cond (not (between 1 64 (columns b))) 4
    (body_refusal 12 (2 * (boats b * columns b)) (boats b * columns b) 5 6 b))))
