-- Rows put behind others: which rows there are, at what places, and that none of them stands twice.
use mathlib.Core.Path.{◌≡◌, refl, sym, ap, ap₂, ◌∙◌}
use mathlib.Core.Bool.{Bool, true, false, ◌||◌}
use mathlib.Core.Logic.{◌⊎◌, inl, inr}
use mathlib.Core.List.{List, [], ◌∷◌, ◌++◌}
use Prim.Native.Nat.{ℕ, zero, suc, ◌+◌, ◌≤◌, ◌<◌}
use native.Mathlib.Omega.{arith}
use borrow.Author.Tests.{eqb-true, eq-eqb, ltb-true, ltb-false}
use lib.Dec.{ltb}
use lib.ListN.{length, get_or, take, length-append, get_or-append}
use lib.Seq.{take-length, take-append_seam, take-take, get_or_at}
use lib.IntN.{ℤ, pos, negsuc}
use Rattle.frank_wolfe.specs.Vectors.{Among, here, there}
use Rattle.files.proofs.Refusal.{and_true}
use Rattle.method.specs.Iterates.{row}
use Rattle.method.proofs.Argmin.{among_row}
use Rattle.merged_book.specs.Merging.{same_value, same_row, is_among, with_row, with_rows}

-- ---- Equal rows

same_value_eq : (x y : ℤ) → same_value x y ≡ true → x ≡ y
unfolding same_value
same_value_eq (pos m) (pos n) e = ap pos (eqb-true m n e)
same_value_eq (pos m) (negsuc n) e = absurd (let z : ◌≡◌ {A = ℕ} 0 1 = cc in omega arith)
same_value_eq (negsuc m) (pos n) e = absurd (let z : ◌≡◌ {A = ℕ} 0 1 = cc in omega arith)
same_value_eq (negsuc m) (negsuc n) e = ap negsuc (eqb-true m n e)

same_value_self : (x : ℤ) → same_value x x ≡ true
unfolding same_value
same_value_self (pos m) = eq-eqb m m refl
same_value_self (negsuc m) = eq-eqb m m refl

pub same_row_eq : (v w : List ℤ) → same_row v w ≡ true → v ≡ w
unfolding same_row
same_row_eq [] [] e = refl
same_row_eq [] (y ∷ w) e = absurd (let z : ◌≡◌ {A = ℕ} 0 1 = cc in omega arith)
same_row_eq (x ∷ v) [] e = absurd (let z : ◌≡◌ {A = ℕ} 0 1 = cc in omega arith)
same_row_eq (x ∷ v) (y ∷ w) e =
    let p = and_true (same_value x y) (same_row v w) e in
    ap₂ ◌∷◌ (same_value_eq x y p.0) (same_row_eq v w p.1)

pub same_row_self : (v : List ℤ) → same_row v v ≡ true
unfolding same_row
same_row_self [] = refl
same_row_self (x ∷ v) = rw (same_value_self x) (same_row_self v)

-- ---- A row among others

pub among_of : (vs : List (List ℤ)) (v : List ℤ) → is_among vs v ≡ true → Among vs v
unfolding is_among
among_of [] v e = absurd (let z : ◌≡◌ {A = ℕ} 0 1 = cc in omega arith)
among_of (w ∷ ws) v e = by (same_row w v) refl e (among_of ws v)
  where
    by : (t : Bool) → same_row w v ≡ t → t || is_among ws v ≡ true → (is_among ws v ≡ true → Among ws v) → Among (w ∷ ws) v
    by true t e f = rw (same_row_eq w v t) here
    by false t e f = there (f e)

pub among_said : {vs : List (List ℤ)} {v : List ℤ} → Among vs v → is_among vs v ≡ true
unfolding is_among
among_said {v = v} here = rw (same_row_self v)
among_said {vs = w ∷ ws} {v = v} (there a) = rw (among_said a) (or_true (same_row w v))
  where
    or_true : (t : Bool) → t || true ≡ true
    or_true true = refl
    or_true false = refl

-- where a row stands
pub record Place (vs : List (List ℤ)) (v : List ℤ) : Type 0 where
  pub index : ℕ
  pub inside : index < length vs
  pub is : get_or vs index [] ≡ v

pub place_of : {vs : List (List ℤ)} {v : List ℤ} → Among vs v → Place vs v
place_of here = record { index = 0; inside = omega arith; is = refl }
place_of (there a) = let r = place_of a in record { index = suc r.index; inside = omega arith; is = r.is }

pub among_at : (vs : List (List ℤ)) (i : ℕ) → i < length vs → Among vs (get_or vs i [])
among_at vs i h = unfold row in among_row vs i h

pub among_left : {vs : List (List ℤ)} {v : List ℤ} (ws : List (List ℤ)) → Among vs v → Among (vs ++ ws) v
among_left ws here = here
among_left ws (there a) = there (among_left ws a)

pub among_right : (vs : List (List ℤ)) {ws : List (List ℤ)} {v : List ℤ} → Among ws v → Among (vs ++ ws) v
among_right [] a = a
among_right (u ∷ vs) a = there (among_right vs a)

pub among_append : (vs : List (List ℤ)) {ws : List (List ℤ)} {v : List ℤ} → Among (vs ++ ws) v → Among vs v ⊎ Among ws v
among_append [] a = inr a
among_append (u ∷ vs) here = inl here
among_append (u ∷ vs) (there a) =
    elim (among_append vs a) [
      | inl p ↦ inl (there p)
      | inr p ↦ inr p
    ]

among_one : {u v : List ℤ} → Among (u ∷ []) v → v ≡ u
among_one here = refl
among_one (there h) = elim h [ ]

-- ---- One row behind others

module _ (vs : List (List ℤ)) (v : List ℤ) where
  pub known_row : is_among vs v ≡ true → with_row vs v ≡ vs
  unfolding with_row
  known_row e = rw e

  pub new_row : is_among vs v ≡ false → with_row vs v ≡ vs ++ (v ∷ [])
  unfolding with_row
  new_row e = rw e

  -- what holds in either case holds
  pub row_cases : (P : List (List ℤ) → Type 0) → (is_among vs v ≡ true → P vs) → (is_among vs v ≡ false → P (vs ++ (v ∷ []))) → P (with_row vs v)
  row_cases P f g = by (is_among vs v) refl
    where
      by : (t : Bool) → is_among vs v ≡ t → P (with_row vs v)
      by true t = rw (known_row t) (f t)
      by false t = rw (new_row t) (g t)

  pub row_length : length vs ≤ length (with_row vs v)
  row_length = row_cases (λ ws. length vs ≤ length ws) (λ e. omega arith) (λ e. omega (arith, length-append vs (v ∷ [])))

  pub row_length_most : length (with_row vs v) ≤ length vs + 1
  row_length_most = row_cases (λ ws. length ws ≤ length vs + 1) (λ e. omega arith) (λ e. omega (arith, length-append vs (v ∷ [])))

  row_taken : take (length vs) (with_row vs v) ≡ vs
  row_taken = row_cases (λ ws. take (length vs) ws ≡ vs) (λ e. take-length vs) (λ e. take-append_seam vs (v ∷ []))

  row_kept : (i : ℕ) → i < length vs → get_or (with_row vs v) i [] ≡ get_or vs i []
  row_kept i h = row_cases (λ ws. get_or ws i [] ≡ get_or vs i []) (λ e. refl) (λ e. get_or-append vs (v ∷ []) [] i h)

  row_there : Among (with_row vs v) v
  row_there = row_cases (λ ws. Among ws v) (among_of vs v) (λ e. among_right vs here)

  row_before : {w : List ℤ} → Among vs w → Among (with_row vs v) w
  row_before {w} a = row_cases (λ ws. Among ws w) (λ e. a) (λ e. among_left (v ∷ []) a)

  row_either : {w : List ℤ} → Among (with_row vs v) w → Among vs w ⊎ (w ≡ v)
  row_either {w} = row_cases (λ ws. Among ws w → Among vs w ⊎ (w ≡ v)) (λ e a. inl a) (λ e a. only (among_append vs a))
    where
      only : Among vs w ⊎ Among (v ∷ []) w → Among vs w ⊎ (w ≡ v)
      only (inl a) = inl a
      only (inr a) = inr (among_one a)

-- no row from k on has an equal before it
pub record Distinct (k : ℕ) (vs : List (List ℤ)) : Type 0 where
  pub apart : (i j : ℕ) → i < j → k ≤ j → j < length vs → get_or vs i [] ≡ get_or vs j [] → ⊥

row_distinct : (k : ℕ) (vs : List (List ℤ)) (v : List ℤ) → Distinct k vs → Distinct k (with_row vs v)
row_distinct k vs v d = row_cases vs v (Distinct k) (λ e. d) (λ e. record { apart = λ i j h l m q. more e i j h l m (ltb j (length vs)) refl q })
  where
    more : is_among vs v ≡ false → (i j : ℕ) → i < j → k ≤ j → j < length (vs ++ (v ∷ [])) → (t : Bool) → ltb j (length vs) ≡ t →
        get_or (vs ++ (v ∷ [])) i [] ≡ get_or (vs ++ (v ∷ [])) j [] → ⊥
    more e i j h l m true t q =
        let n : j < length vs = ltb-true j (length vs) t in
        d.apart i j h l n (sym (get_or-append vs (v ∷ []) [] i (omega arith)) ∙ q ∙ get_or-append vs (v ∷ []) [] j n)
    more e i j h l m false t q =
        let n : length vs ≤ j = ltb-false j (length vs) t in
        let o : length vs ≡ j = omega (arith, length-append vs (v ∷ [])) in
        let s : get_or vs i [] ≡ v = sym (get_or-append vs (v ∷ []) [] i (omega arith)) ∙ q ∙ get_or_at vs v [] [] j o in
        let u : is_among vs v ≡ true = among_said (rw s at (among_at vs i (omega arith))) in
        let z : ◌≡◌ {A = ℕ} 0 1 = cc in omega arith

-- ---- Rows behind others

pub rows_length : (vs ws : List (List ℤ)) → length vs ≤ length (with_rows vs ws)
unfolding with_rows
rows_length vs [] = omega arith
rows_length vs (w ∷ ws) = omega (arith, row_length vs w, rows_length (with_row vs w) ws)

pub rows_kept : (vs ws : List (List ℤ)) (i : ℕ) → i < length vs → get_or (with_rows vs ws) i [] ≡ get_or vs i []
unfolding with_rows
rows_kept vs [] i h = refl
rows_kept vs (w ∷ ws) i h = rows_kept (with_row vs w) ws i (omega (arith, row_length vs w)) ∙ row_kept vs w i h

pub rows_taken : (vs ws : List (List ℤ)) → take (length vs) (with_rows vs ws) ≡ vs
unfolding with_rows
rows_taken vs [] = take-length vs
rows_taken vs (w ∷ ws) =
    sym (take-take (length vs) (length (with_row vs w)) (with_rows (with_row vs w) ws) (row_length vs w)) ∙ rw (rows_taken (with_row vs w) ws) (row_taken vs w)

pub rows_before : (vs ws : List (List ℤ)) {v : List ℤ} → Among vs v → Among (with_rows vs ws) v
unfolding with_rows
rows_before vs [] a = a
rows_before vs (w ∷ ws) a = rows_before (with_row vs w) ws (row_before vs w a)

pub rows_there : (vs : List (List ℤ)) {ws : List (List ℤ)} {v : List ℤ} → Among ws v → Among (with_rows vs ws) v
unfolding with_rows
rows_there vs {ws = w ∷ ws} here = rows_before (with_row vs w) ws (row_there vs w)
rows_there vs {ws = w ∷ ws} (there a) = rows_there (with_row vs w) a
rows_there vs {ws = []} h = elim h [ ]

pub rows_either : (vs ws : List (List ℤ)) {v : List ℤ} → Among (with_rows vs ws) v → Among vs v ⊎ Among ws v
unfolding with_rows
rows_either vs [] a = inl a
rows_either vs (w ∷ ws) {v} a =
    elim (rows_either (with_row vs w) ws a) [
      | inr p ↦ inr (there p)
      | inl p ↦ first (row_either vs w p)
    ]
  where
    first : Among vs v ⊎ (v ≡ w) → Among vs v ⊎ Among (w ∷ ws) v
    first (inl q) = inl q
    first (inr q) = inr (rw q here)

pub rows_distinct : (k : ℕ) (vs ws : List (List ℤ)) → Distinct k vs → Distinct k (with_rows vs ws)
unfolding with_rows
rows_distinct k vs [] d = d
rows_distinct k vs (w ∷ ws) d = rows_distinct k (with_row vs w) ws (row_distinct k vs w d)

pub distinct_start : (vs : List (List ℤ)) → Distinct (length vs) vs
distinct_start vs = record { apart = λ i j h l m q. absurd (omega arith) }
