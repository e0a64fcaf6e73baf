-- The columns of a derived file by number, for the contracts of the functions inside. Definitions only.
use Rattle.std.specs.Prelude.{List, [], ◌∷◌, ◌++◌, map, ℕ, suc, ◌+◌, ◌*◌, ◌≤◌, ◌<◌, length, get_or, replicate, ℤ, pos}
use Rattle.files.specs.Book.{rows}
use Rattle.book_output.specs.Output.{rows_bytes}

-- the columns of a derived file, from this one on: each as often as its factor says
unfoldable pub places : (column : ℕ) → (factors : List ℕ) → List ℕ
places j [] = []
places j (f ∷ fs) = replicate f j ++ places (suc j) fs

-- the values of these columns of a row
unfoldable pub picked : (places : List ℕ) → List ℤ → List ℤ
picked ps v = map (λ j. get_or v j (pos 0)) ps

-- the bytes of these columns of the row at `from`
unfoldable pub cells : (bytes : List ℕ) → (from : ℕ) → (places : List ℕ) → List ℕ
cells bs from [] = []
cells bs from (j ∷ js) = get_or bs (from + 2 * j) 0 ∷ (get_or bs (from + 2 * j + 1) 0 ∷ cells bs from js)

-- the bytes of these columns of all rows
abbrev pub picked_rows_bytes : (places book : List ℕ) → List ℕ
picked_rows_bytes ps b = rows_bytes (map (picked ps) (rows b))

-- that these cells of the row at `from` are inside the bytes
abbrev pub Inside : (bytes : List ℕ) → (from : ℕ) → (places : List ℕ) → Type 0
Inside bs from ps = (k : ℕ) → k < length ps → from + 2 * get_or ps k 0 + 2 ≤ length bs

-- that these are among the first c columns
abbrev pub Below : (c : ℕ) → (places : List ℕ) → Type 0
Below c ps = (k : ℕ) → k < length ps → get_or ps k 0 < c
