-- Rows with repeated columns: as values picked by number, and their range.
use mathlib.Core.Path.{◌≡◌, refl, ap, ap₂}
use mathlib.Core.Bool.{Bool, true, false}
use mathlib.Core.List.{List, [], ◌∷◌, ◌++◌, map}
use Prim.Native.Nat.{ℕ, zero, suc, ◌+◌, ◌-◌, ◌≤◌, ◌<◌}
use native.Mathlib.Omega.{arith}
use borrow.Author.Tests.{ltb-true, ltb-false}
use lib.Dec.{ltb}
use lib.ListN.{length, get_or, drop, replicate, length-append, length-replicate, get_or-append, get_or-replicate}
use lib.Seq.{drop-cons, get_or-append-add}
use lib.IntN.{ℤ, pos}
use Rattle.files.specs.Bytes.{in_range, all_in_range}
use Rattle.files.specs.Book.{all_rows_in_range}
use Rattle.files.proofs.Refusal.{and_true}
use Rattle.repeated_columns.specs.Repeating.{repeated}
use Rattle.derived_files.specs.Places.{places, picked}

-- ---- places are columns
below_by : (t : Bool) (j f k : ℕ) (rest : List ℕ) (n : ℕ) → ltb k f ≡ t → k < length (replicate f j ++ rest) → ((m : ℕ) → m < length rest → get_or rest m 0 < j + suc n) → get_or (replicate f j ++ rest) k 0 < j + suc n
below_by true j f k rest n t h g =
    let l : k < f = ltb-true k f t in
    rw (get_or-append (replicate f j) rest 0 k (omega (arith, length-replicate f j)), get_or-replicate f k j 0 l) (omega arith)
below_by false j f k rest n t h g =
    let l : f ≤ k = ltb-false k f t in
    let e : k ≡ length (replicate f j) + (k - f) = omega (arith, length-replicate f j) in
    rw (e, get_or-append-add (replicate f j) rest (k - f) 0) (g (k - f) (omega (arith, length-append (replicate f j) rest, length-replicate f j)))

pub places_below : (j : ℕ) (fs : List ℕ) (k : ℕ) → k < length (places j fs) → get_or (places j fs) k 0 < j + length fs
unfolding places
places_below j [] k h = absurd (omega arith)
places_below j (f ∷ fs) k h = below_by (ltb k f) j f k (places (suc j) fs) (length fs) refl h (λ m l. omega (arith, places_below (suc j) fs m l))

-- ---- values picked by number
picked_append : (xs ys : List ℕ) (v : List ℤ) → picked (xs ++ ys) v ≡ picked xs v ++ picked ys v
unfolding picked
picked_append [] ys v = refl
picked_append (x ∷ xs) ys v = ap (λ l. get_or v x (pos 0) ∷ l) (picked_append xs ys v)

picked_same : (f j : ℕ) (v : List ℤ) → picked (replicate f j) v ≡ replicate f (get_or v j (pos 0))
unfolding picked
picked_same zero j v = refl
picked_same (suc f) j v = ap (λ l. get_or v j (pos 0) ∷ l) (picked_same f j v)

picked_from : (j : ℕ) (fs : List ℕ) (v : List ℤ) → j + length fs ≤ length v → picked (places j fs) v ≡ repeated fs (drop j v)
unfolding places repeated
picked_from j [] v h = unfold picked in refl
picked_from j (f ∷ fs) v h =
    rw (picked_append (replicate f j) (places (suc j) fs) v, picked_same f j v, picked_from (suc j) fs v (omega arith), drop-cons v j (pos 0) (omega arith))

pub picked_repeated : (fs : List ℕ) (v : List ℤ) → length v ≡ length fs → picked (places 0 fs) v ≡ repeated fs v
picked_repeated fs v h = picked_from 0 fs v (omega arith)

-- ---- ranges
in_range_more : (f : ℕ) (x : ℤ) (ys : List ℤ) → in_range x ≡ true → all_in_range ys ≡ true → all_in_range (replicate f x ++ ys) ≡ true
unfolding all_in_range
in_range_more zero x ys h k = k
in_range_more (suc f) x ys h k = rw (h, in_range_more f x ys h k)

pub repeated_in_range : (fs : List ℕ) (v : List ℤ) → all_in_range v ≡ true → all_in_range (repeated fs v) ≡ true
unfolding repeated all_in_range
repeated_in_range [] v h = refl
repeated_in_range (f ∷ fs) [] h = refl
repeated_in_range (f ∷ fs) (x ∷ xs) h =
    let p = and_true (in_range x) (all_in_range xs) h in
    in_range_more f x (repeated fs xs) p.0 (repeated_in_range fs xs p.1)

pub rows_in_range : (fs : List ℕ) (vs : List (List ℤ)) → all_rows_in_range vs ≡ true → all_rows_in_range (map (repeated fs) vs) ≡ true
unfolding all_rows_in_range
rows_in_range fs [] h = refl
rows_in_range fs (v ∷ vs) h =
    let p = and_true (all_in_range v) (all_rows_in_range vs) h in
    rw (repeated_in_range fs v p.0, rows_in_range fs vs p.1)

-- ---- rows that all have a property
abbrev pub Every : (List ℤ → Type 0) → List (List ℤ) → Type 0
Every P vs = (k : ℕ) → k < length vs → P (get_or vs k [])

pub map_every : (f g : List ℤ → List ℤ) (vs : List (List ℤ)) → Every (λ v. f v ≡ g v) vs → map f vs ≡ map g vs
map_every f g [] h = refl
map_every f g (v ∷ vs) h = ap₂ ◌∷◌ (h 0 (omega arith)) (map_every f g vs (λ k l. h (suc k) (omega arith)))

pub map_kept : (P Q : List ℤ → Type 0) (f : List ℤ → List ℤ) → ((v : List ℤ) → P v → Q (f v)) → (vs : List (List ℤ)) → Every P vs → Every Q (map f vs)
map_kept P Q f g [] h k l = absurd (omega arith)
map_kept P Q f g (v ∷ vs) h zero l = g v (h 0 (omega arith))
map_kept P Q f g (v ∷ vs) h (suc k) l = map_kept P Q f g vs (λ k l. h (suc k) (omega arith)) k (omega arith)
