-- The bytes of drawn rows. A row that equals the one before it is copied from the buffer. Definitions only.
use Rattle.std.specs.Prelude.{Bool, ◌&&◌, not, cond, List, [], ◌∷◌, ◌++◌, ℕ, zero, suc, ◌+◌, ◌*◌, ◌-◌, ◌/◌, ◌%◌, eqb, length, get_or, set}
use Rattle.std.proofs.lemmas.List.Edits.{sets}
use Rattle.files.specs.Bytes.{number, number_bytes}
use Rattle.test_buffers.specs.Buffers.{after}
use Rattle.test_samples.specs.Draws.{advance, advances, drawn}

-- so many values from -`scale` to `scale`
unfoldable pub row : (columns scale s : ℕ) → List ℕ
row zero scale s = []
row (suc n) scale s = number_bytes 2 (drawn (2 * (scale % 65536) + 1) s % 65536 + 65536 - scale % 65536) ++ row n scale (advance s)

-- `left` bytes from `at` on, each that which stands `count` places before it
unfoldable pub again : (count left : ℕ) → (buffer : List ℕ) → (at : ℕ) → List ℕ
again count zero buffer at = []
again count (suc n) buffer at = get_or buffer (at - count) 0 ∷ again count n (set buffer at (get_or buffer (at - count) 0)) (after (length buffer) at 1)

-- whether row i is the row before it once more
abbrev pub repeats : (i kind : ℕ) → Bool
repeats i kind = eqb kind 0 && not (eqb i 0)

-- row i, and the state after it
abbrev pub next_row : (i kind columns scale : ℕ) → (buffer : List ℕ) → (at s : ℕ) → List ℕ
next_row i kind columns scale buffer at s = cond (repeats i kind) (again (2 * (columns % 65536)) (2 * (columns % 65536)) buffer at) (row columns scale s)

abbrev pub after_row : (i kind columns s : ℕ) → ℕ
after_row i kind columns s = cond (repeats i kind) s (advances columns s)

-- the rows of so many boats from boat i on, about one in four of them equal to the row before it, and the state after them
unfoldable pub rows : (boats i columns scale : ℕ) → (buffer : List ℕ) → (at s : ℕ) → List ℕ
rows zero i columns scale buffer at s = []
rows (suc n) i columns scale buffer at s =
    let first = next_row i (drawn 4 s) columns scale buffer at (advance s) in
    first ++ rows n (i + 1) columns scale (sets buffer at first) (after (length buffer) at (length first)) (after_row i (drawn 4 s) columns (advance s))

unfoldable pub after_rows : (boats i columns s : ℕ) → ℕ
after_rows zero i columns s = s
after_rows (suc n) i columns s = after_rows n (i + 1) columns (after_row i (drawn 4 s) columns (advance s))

-- value i of those that start at `at`, from 0 on
abbrev pub raised : (from : List ℕ) → (at i : ℕ) → ℕ
raised from at i = (number (at % 65536 + 2 * (i % 65536)) 2 from + 2000) % 65536

-- so many values from value i on, half way between those that start at a and at b, rounded down
unfoldable pub middle : (columns i : ℕ) → (from : List ℕ) → (a b : ℕ) → List ℕ
middle zero i from a b = []
middle (suc n) i from a b = number_bytes 2 ((raised from a i + raised from b i) / 2 + 63536) ++ middle n (i + 1) from a b
