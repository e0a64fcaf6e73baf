-- What is read as values and written again is the same bytes.
use mathlib.Core.Path.{◌≡◌, refl, sym}
use mathlib.Core.List.{List, [], ◌∷◌}
use Prim.Native.Nat.{ℕ, zero, suc, ◌+◌, ◌*◌, ◌≤◌, ◌<◌}
use native.Mathlib.Nat.{suc-mul, zero-mul}
use native.Mathlib.Omega.{arith}
use lib.ListN.{length, get_or, take, drop, length-drop}
use lib.Seq.{take-add, get_or-drop}
use mir.Syntax.{w8}
use mir.Val.{Fits}
use Rattle.files.specs.Bytes.{number_bytes, number, value, values}
use Rattle.files.specs.Book.{rows_from}
use Rattle.sheet_output.specs.Output.{bits, values_bytes}
use Rattle.book_output.specs.Output.{rows_bytes}
use Rattle.derived_files.specs.Places.{picked, cells}
use Rattle.derived_files.proofs.Rows.{cells_are}

-- the elements of a list are bytes
abbrev pub Bytes : List ℕ → Type 0
Bytes bs = (i : ℕ) → Fits w8 (get_or bs i 0)

pub bytes_drop : (n : ℕ) (bs : List ℕ) → Bytes bs → Bytes (drop n bs)
bytes_drop n bs f i = rw get_or-drop (f (n + i))

pub bytes_take : (n : ℕ) (bs : List ℕ) → Bytes bs → Bytes (take n bs)
bytes_take zero bs f i = record { fits = omega arith }
bytes_take (suc n) [] f i = record { fits = omega arith }
bytes_take (suc n) (x ∷ bs) f zero = f 0
bytes_take (suc n) (x ∷ bs) f (suc i) = bytes_take n bs (λ j. f (suc j)) i

-- one value, 2 bytes
first_value : (x y : ℕ) (bs : List ℕ) → Bytes (x ∷ (y ∷ bs)) → number_bytes 2 (bits (value (number 0 2 (x ∷ (y ∷ bs))))) ≡ x ∷ (y ∷ [])
unfolding picked values_bytes values cells number_bytes
first_value x y bs f = sym (cells_are (x ∷ (y ∷ bs)) f 0 1 (0 ∷ []) only)
  where
    only : (k : ℕ) → k < 1 → get_or (0 ∷ []) k 0 < 1
    only zero h = omega arith
    only (suc k) h = absurd (omega arith)

pub values_same : (c : ℕ) (bs : List ℕ) → Bytes bs → 2 * c ≤ length bs → values_bytes (values c bs) ≡ take (2 * c) bs
unfolding values values_bytes
values_same zero bs f h = refl
values_same (suc c) [] f h = absurd (omega arith)
values_same (suc c) (x ∷ []) f h = absurd (omega arith)
values_same (suc c) (x ∷ (y ∷ bs)) f h =
    let e : 2 * suc c ≡ suc (suc (2 * c)) = omega arith in
    rw (first_value x y bs f, values_same c bs (λ i. f (suc (suc i))) (omega arith), e)

pub rows_same : (n c : ℕ) (bs : List ℕ) → Bytes bs → 2 * (n * c) ≤ length bs → rows_bytes (rows_from n c bs) ≡ take (2 * (n * c)) bs
unfolding rows_from rows_bytes
rows_same zero c bs f h = let e : 2 * (0 * c) ≡ 0 = omega (arith, zero-mul c) in rw e
rows_same (suc n) c bs f h =
    let e : 2 * (suc n * c) ≡ 2 * c + 2 * (n * c) = omega (arith, suc-mul n c) in
    rw (values_same c bs f (omega arith), rows_same n c (drop (2 * c) bs) (bytes_drop (2 * c) bs f) (rw length-drop (omega arith)), e, take-add)
