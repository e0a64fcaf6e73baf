-- Values and rows read at an offset of the file.
use mathlib.Core.Path.{◌≡◌, refl, ap}
use mathlib.Core.Bool.{Bool, true, false, ◌&&◌}
use mathlib.Core.List.{List, [], ◌∷◌, ◌++◌}
use Prim.Native.Nat.{ℕ, zero, suc, ◌+◌, ◌*◌, ◌-◌, ◌≤◌, ◌<◌}
use native.Mathlib.Nat.{zero-mul, suc-mul, zero-add, suc-add}
use native.Mathlib.Omega.{arith}
use lib.IntN.{ℤ, pos}
use lib.ListN.{length, get_or, take, drop}
use lib.Seq.{drop-drop, take-nil, take-take}
use Rattle.files.specs.Bytes.{number, value, values, all_in_range}
use Rattle.files.specs.Book.{rows_from, all_rows_in_range}

-- ---- lengths
pub length_values : (n : ℕ) (bs : List ℕ) → length (values n bs) ≡ n
unfolding values
length_values zero bs = refl
length_values (suc n) bs = ap suc (length_values n (drop 2 bs))

pub length_rows_from : (n c : ℕ) (bs : List ℕ) → length (rows_from n c bs) ≡ n
unfolding rows_from
length_rows_from zero c bs = refl
length_rows_from (suc n) c bs = ap suc (length_rows_from n c (drop (2 * c) bs))

-- ---- one element
-- the first value, at an offset
pub values_suc : (n at : ℕ) (bs : List ℕ) → values (suc n) (drop at bs) ≡ value (number at 2 bs) ∷ values n (drop (at + 2) bs)
unfolding values number
values_suc n at bs = rw (drop-drop 2 at bs)

pub value_of_values : (n j at : ℕ) (bs : List ℕ) → j < n → get_or (values n (drop at bs)) j (pos 0) ≡ value (number (at + 2 * j) 2 bs)
value_of_values zero j at bs h = absurd (omega arith)
value_of_values (suc n) zero at bs h = let e : at + 2 * 0 ≡ at = omega arith in rw (values_suc, e)
value_of_values (suc n) (suc j) at bs h =
    let e : at + 2 * suc j ≡ at + 2 + 2 * j = omega arith in
    rw (values_suc, e) (value_of_values n j (at + 2) bs (omega arith))

pub row_of_rows : (n c i at : ℕ) (bs : List ℕ) → i < n → get_or (rows_from n c (drop at bs)) i [] ≡ values c (drop (at + 2 * (i * c)) bs)
unfolding rows_from
row_of_rows zero c i at bs h = absurd (omega arith)
row_of_rows (suc n) c zero at bs h =
    let e : at + 2 * (0 * c) ≡ at = omega (arith, zero-mul c) in
    rw e
row_of_rows (suc n) c (suc i) at bs h =
    let e : at + 2 * (suc i * c) ≡ at + 2 * c + 2 * (i * c) = omega (arith, suc-mul i c) in
    rw (drop-drop (2 * c) at bs, e) (row_of_rows n c i (at + 2 * c) bs (omega arith))

-- ---- a part that is long enough
pub drop_take : (m k : ℕ) (bs : List ℕ) → drop m (take (m + k) bs) ≡ take k (drop m bs)
drop_take zero k bs = rw zero-add
drop_take (suc m) k [] = rw (take-nil (suc m + k), take-nil)
drop_take (suc m) k (b ∷ bs) = rw suc-add (drop_take m k bs)

values_take : (n k : ℕ) (bs : List ℕ) → values n (take (2 * n + k) bs) ≡ values n bs
unfolding values number
values_take zero k bs = refl
values_take (suc n) k bs =
    let e : 2 * suc n + k ≡ 2 + (2 * n + k) = omega arith in
    rw (e, drop_take 2, values_take n k (drop 2 bs), take-take 2 (2 + (2 * n + k)) bs (omega arith))

pub values_take_some : (n m : ℕ) (bs : List ℕ) → 2 * n ≤ m → values n (take m bs) ≡ values n bs
values_take_some n m bs h = let e : 2 * n + (m - 2 * n) ≡ m = omega arith in rw e at (values_take n (m - 2 * n) bs)

pub rows_take : (n c : ℕ) (bs : List ℕ) → rows_from n c (take (2 * (n * c)) bs) ≡ rows_from n c bs
unfolding rows_from
rows_take zero c bs = refl
rows_take (suc n) c bs =
    let e : 2 * (suc n * c) ≡ 2 * c + 2 * (n * c) = omega (arith, suc-mul n c) in
    rw (e, values_take c, drop_take (2 * c), rows_take n c (drop (2 * c) bs))

-- ---- rows as one list of values
values_add : (a b : ℕ) (bs : List ℕ) → values (a + b) bs ≡ values a bs ++ values b (drop (2 * a) bs)
unfolding values
values_add zero b bs = rw zero-add
values_add (suc a) b bs =
    let e : 2 * suc a ≡ 2 + 2 * a = omega arith in
    rw (suc-add, e, ← drop-drop, values_add a b (drop 2 bs))

and_assoc : (a b c : Bool) → (a && b) && c ≡ a && (b && c)
and_assoc true b c = refl
and_assoc false b c = refl

all_in_range_append : (xs ys : List ℤ) → all_in_range (xs ++ ys) ≡ all_in_range xs && all_in_range ys
unfolding all_in_range
all_in_range_append [] ys = refl
all_in_range_append (x ∷ xs) ys = rw (all_in_range_append xs ys, and_assoc)

pub rows_flat : (n c : ℕ) (bs : List ℕ) → all_rows_in_range (rows_from n c bs) ≡ all_in_range (values (n * c) bs)
unfolding rows_from all_rows_in_range values all_in_range
rows_flat zero c bs = rw zero-mul
rows_flat (suc n) c bs =
    let e : suc n * c ≡ c + n * c = omega (arith, suc-mul n c) in
    rw (e, values_add c (n * c) bs, all_in_range_append, rows_flat n c (drop (2 * c) bs))
