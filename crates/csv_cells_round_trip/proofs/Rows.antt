-- Written rows: their fields, and all of them.
use mathlib.Core.Path.{◌≡◌, refl}
use mathlib.Core.Bool.{Bool, true, false, cond}
use mathlib.Core.List.{List, [], ◌∷◌, ◌++◌, map}
use Prim.Native.Nat.{ℕ, zero, suc, ◌+◌, ◌≤◌, ◌<◌}
use native.Mathlib.Omega.{arith}
use borrow.Author.Tests.{eqb-true, ne_eqb}
use lib.Dec.{eqb}
use lib.ListN.{length}
use Rattle.csv_bytes.specs.declared.Mode.TheVariants.{Start, Closing}
use Rattle.csv_fleet_round_trip.specs.Writing.{quoted, fields, line}
use Rattle.csv_fleet_round_trip.specs.Back.{All, UnitFits, none, more}
use Rattle.csv_cells.specs.Cells.{row_after}
use Rattle.csv_cells.proofs.Steps.{field_added, row_fields, row_bytes, line_next, moved_good, token_field, token_line}
use Rattle.csv_cells_round_trip.specs.Writing.{row_line, rows_csv}
use Rattle.csv_cells_round_trip.specs.Back.{RowFits}
use Rattle.csv_cells_round_trip.proofs.Going.{Goes, goes_nil, goes_then, goes_on, goes_byte, at, told, kept, kept_nil, wanted, none_put, quoted_goes}

-- what stands at place t of the lists, counted from j
unfoldable pub picked : (t j : ℕ) → List (List ℕ) → List ℕ
picked t j [] = []
picked t j (x ∷ xs) = kept (eqb j t) x ++ picked t (j + 1) xs

both_are : (a b : Bool) → cond a b false ≡ true → (a ≡ true) × (b ≡ true)
both_are true b e = (refl, e)
both_are false b e = let z : ◌≡◌ {A = ℕ} 0 1 = cc in absurd (omega arith)

kept_split : (a b : Bool) (xs ys : List ℕ) → kept a (kept b xs ++ ys) ≡ kept (cond a b false) xs ++ kept a ys
kept_split true b xs ys = refl
kept_split false b xs ys = refl

-- nothing was wanted before place t
still_none : (j t : ℕ) (xs : List ℕ) {n : ℕ} → n ≡ 0 → j < t → n + length (kept (eqb j t) xs) ≡ 0
still_none j t xs e h = rw (ne_eqb j t (λ x. omega arith)) (omega arith)

none_wanted : (i r j f : ℕ) (xs : List ℕ) {n : ℕ} → n ≡ 0 → j < f → n + length (kept (wanted r f i j) xs) ≡ 0
none_wanted i r j f xs {n} e h = rw (ne_eqb j f (λ x. omega arith)) (by (eqb i r))
  where
    by : (a : Bool) → n + length (kept (cond a false false) xs) ≡ 0
    by true = omega arith
    by false = omega arith

-- ---- a row
module _ (r f l i : ℕ) where
  comma : (j s n : ℕ) → j < 64 → Goes r f Closing (at l i j s) n (44 ∷ []) Start (at l i (j + 1) 0) [] (told r l i)
  comma j s n h =
      let p = at l i j s in
      goes_byte n 44 refl (moved_good p 256 refl (token_field p 256 refl (field_added p h))) (none_put r f n p 256 (omega arith))

  filled : (j s : ℕ) → (j ≡ 0 → s ≡ 0 → ⊥) → i + 1 ≡ row_after (at l i j s)
  filled zero s h = row_bytes (at l i 0 s) refl (h refl)
  filled (suc j) s h = row_fields (at l i (suc j) s) (λ e. omega arith)

  newline : (j s n : ℕ) → (j ≡ 0 → s ≡ 0 → ⊥) → Goes r f Closing (at l i j s) n (10 ∷ []) Start (at (l + 1) (i + 1) 0 0) [] (told r l i)
  newline j s n h =
      let p = at l i j s in
      goes_byte n 10 refl (moved_good p 257 refl (token_line p 257 refl (line_next p (filled j s h)))) (none_put r f n p 257 (omega arith))

  fields_go : (fs : List (List ℕ)) → All UnitFits fs → (j s n : ℕ) → j + length fs ≤ 64 → (j ≡ 0 → s ≡ 0 → ⊥) → (eqb i r ≡ true → j < f → n ≡ 0) →
      Goes r f Closing (at l i j s) n (fields (map quoted fs)) Start (at (l + 1) (i + 1) 0 0) (kept (eqb i r) (picked f (j + 1) fs)) (told r l i)
  unfolding fields picked
  fields_go [] none j s n h b z = rw (← kept_nil (eqb i r)) (newline j s n b)
  fields_go (g ∷ gs) (more a bs) j s n h b z =
      let w = wanted r f i (j + 1) in
      let here : w ≡ true → n ≤ 0 = λ e. let q = both_are (eqb i r) (eqb (j + 1) f) e in omega (arith, z q.0 (omega (arith, eqb-true (j + 1) f q.1))) in
      rw (kept_split (eqb i r) (eqb (j + 1) f) g (picked f (j + 1 + 1) gs))
      (goes_on l i (comma j s n (omega arith)) (omega arith)
      (goes_on l i (quoted_goes r f l i (j + 1) n g here a.most a.bytes) refl
      (fields_go gs bs (j + 1) (length g) (n + length (kept w g)) (omega arith) (λ e. omega arith) (λ e k. none_wanted i r (j + 1) f g (z e (omega arith)) k))))

  row_goes : (row : List (List ℕ)) → RowFits row → (n : ℕ) → (eqb i r ≡ true → n ≡ 0) →
      Goes r f Start (at l i 0 0) n (row_line row) Start (at (l + 1) (i + 1) 0 0) (kept (eqb i r) (picked f 0 row)) (told r l i)
  unfolding row_line line picked
  row_goes [] c n z = absurd (omega (arith, c.some_fields))
  row_goes (g ∷ gs) c n z = by c.fields_fit
    where
      by : All UnitFits (g ∷ gs) → Goes r f Start (at l i 0 0) n (row_line (g ∷ gs)) Start (at (l + 1) (i + 1) 0 0) (kept (eqb i r) (picked f 0 (g ∷ gs))) (told r l i)
      by (more a bs) =
          let w = wanted r f i 0 in
          rw (kept_split (eqb i r) (eqb 0 f) g (picked f (0 + 1) gs))
          (goes_on l i (quoted_goes r f l i 0 n g (λ e. omega (arith, z (both_are (eqb i r) (eqb 0 f) e).0)) a.most a.bytes) refl
          (fields_go gs bs 0 (length g) (n + length (kept w g)) (omega (arith, c.most_fields)) (λ e y. omega (arith, c.first_filled)) (λ e k. none_wanted i r 0 f g (z e) k)))

-- ---- all rows: row i stands in line i + 1
unfoldable pub told_all : (r i rows k : ℕ) → ℕ
told_all r i zero k = k
told_all r i (suc c) k = told_all r (i + 1) c (told r (i + 1) i k)

pub rows_go : (r f : ℕ) (rows : List (List (List ℕ))) → All RowFits rows → (i n : ℕ) → (i ≤ r → n ≡ 0) →
    Goes r f Start (at (i + 1) i 0 0) n (rows_csv rows) Start (at (i + length rows + 1) (i + length rows) 0 0) (picked r i (map (picked f 0) rows)) (told_all r i (length rows))
unfolding rows_csv picked told_all
rows_go r f [] none i n z = let e : i + 0 ≡ i = omega arith in rw e goes_nil
rows_go r f (row ∷ rows) (more a bs) i n z =
    let e : i + suc (length rows) ≡ i + 1 + length rows = omega arith in
    let x = kept (eqb i r) (picked f 0 row) in
    rw e
    (goes_then (row_goes r f (i + 1) i row a n (λ q. z (omega (arith, eqb-true i r q)))) refl
    (rows_go r f rows bs (i + 1) (n + length x) (λ h. still_none i r (picked f 0 row) (z (omega arith)) (omega arith))))
