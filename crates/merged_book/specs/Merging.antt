-- One fleet book from two: its rows, its bytes, what refuses the call and what it gives back. Definitions only.
use Rattle.std.specs.Prelude.{Bool, true, false, ◌&&◌, ◌||◌, not, cond, List, [], ◌∷◌, ◌++◌, ℕ, zero, suc, eqb, ltb, length, ℤ, pos, negsuc, Result, Ok, Err}
use Rattle.refusals.specs.declared.Refusal.{Refusal}
use Rattle.refusals.specs.Numbers.{number}
use Rattle.files.specs.Book.{columns, rows, book_refusal}
use Rattle.book_output.specs.Output.{book_bytes}
use Rattle.merged_book.specs.declared.Merged.{Merged}

-- ---- The rows

-- whether two values are equal
unfoldable pub same_value : ℤ → ℤ → Bool
same_value (pos m) (pos n) = eqb m n
same_value (pos m) (negsuc n) = false
same_value (negsuc m) (pos n) = false
same_value (negsuc m) (negsuc n) = eqb m n

-- whether two rows are equal, value by value
unfoldable pub same_row : List ℤ → List ℤ → Bool
same_row [] [] = true
same_row [] (y ∷ ys) = false
same_row (x ∷ xs) [] = false
same_row (x ∷ xs) (y ∷ ys) = same_value x y && same_row xs ys

-- whether a row equals one of these
unfoldable pub is_among : (rows : List (List ℤ)) → (row : List ℤ) → Bool
is_among [] v = false
is_among (w ∷ ws) v = same_row w v || is_among ws v

-- a row behind others, where it equals none of them
unfoldable pub with_row : (before : List (List ℤ)) → (row : List ℤ) → List (List ℤ)
with_row vs v = cond (is_among vs v) vs (vs ++ (v ∷ []))

-- rows behind others, in order, each that equals no row before it
unfoldable pub with_rows : (before rows : List (List ℤ)) → List (List ℤ)
with_rows vs [] = vs
with_rows vs (w ∷ ws) = with_rows (with_row vs w) ws

-- all rows of the first book, equal ones too, then each row of the second that equals no row before it
unfoldable pub merged_rows : (first second : List ℕ) → List (List ℤ)
merged_rows a b = with_rows (rows a) (rows b)

-- ---- The file, without front text

unfoldable pub merged_book : (first second : List ℕ) → List ℕ
merged_book a b = book_bytes (merged_rows a b) (columns a)

-- ---- The call

-- the first refusal that applies: 1 to 6 of the first book, then of the second; then 55, the columns differ; 56, more than 256 boats;
-- 57, a buffer of `room` bytes is shorter than the merged book; 0 if none does
unfoldable pub merge_refusal : (first second : List ℕ) → (room : ℕ) → ℕ
merge_refusal a b room =
    cond (not (eqb (book_refusal a) 0)) (book_refusal a)
    (cond (not (eqb (book_refusal b) 0)) (book_refusal b)
    (cond (not (eqb (columns a) (columns b))) 55
    (cond (ltb 256 (length (merged_rows a b))) 56
    (cond (ltb room (length (merged_book a b))) 57
    0))))

-- what is given back: a number that refuses and no byte, or 0 and how many bytes the merged book has
unfoldable pub merging : (refusal size : ℕ) → Merged
merging zero size = record { refusal = 0; len = size }
merging (suc n) size = record { refusal = suc n; len = 0 }

-- the same of a result of the code: how many bytes were written, or the reason
abbrev pub as_merged : Result ℕ Refusal → Merged
as_merged (Ok size) = record { refusal = 0; len = size }
as_merged (Err r) = record { refusal = number r; len = 0 }
