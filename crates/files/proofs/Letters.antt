-- The comparison of two lists of bytes.
use mathlib.Core.Path.{◌≡◌, refl, sym, ap₂, ◌∙◌}
use mathlib.Core.Bool.{Bool, true, false}
use mathlib.Core.List.{List, [], ◌∷◌}
use Prim.Native.Nat.{ℕ}
use native.Mathlib.Omega.{arith}
use borrow.Author.Tests.{eq-eqb, ne_eqb, eqb-true}
use lib.Dec.{eqb}
use Rattle.std.specs.Cmp.Lexicographic.{pointwise}
use Rattle.std.proofs.lemmas.Bool.{true≢false}
use Rattle.files.specs.Bytes.{same}
use Rattle.files.proofs.Refusal.{and_true}

eqb_turned : (x y : ℕ) → eqb x y ≡ eqb y x
eqb_turned x y = by (eqb y x) refl
  where
    by : (b : Bool) → eqb y x ≡ b → eqb x y ≡ b
    by true e = eq-eqb x y (sym (eqb-true y x e))
    by false e = ne_eqb x y (λ h. true≢false (sym (eq-eqb y x (sym h)) ∙ e))

-- what the library's comparison gives, and in the other order
pub pointwise_same : (xs ys : List ℕ) → pointwise eqb xs ys ≡ same xs ys
unfolding same
pointwise_same [] [] = refl
pointwise_same [] (y ∷ ys) = refl
pointwise_same (x ∷ xs) [] = refl
pointwise_same (x ∷ xs) (y ∷ ys) = rw (pointwise_same xs ys)

pub pointwise_turned : (xs ys : List ℕ) → pointwise eqb ys xs ≡ same xs ys
unfolding same
pointwise_turned [] [] = refl
pointwise_turned [] (y ∷ ys) = refl
pointwise_turned (x ∷ xs) [] = refl
pointwise_turned (x ∷ xs) (y ∷ ys) = rw (eqb_turned y x, pointwise_turned xs ys)

-- ---- the same bytes are one list
pub same_eq : (xs ys : List ℕ) → same xs ys ≡ true → xs ≡ ys
unfolding same
same_eq [] [] h = refl
same_eq [] (y ∷ ys) h = absurd (let z : ◌≡◌ {A = ℕ} 0 1 = cc in omega arith)
same_eq (x ∷ xs) [] h = absurd (let z : ◌≡◌ {A = ℕ} 0 1 = cc in omega arith)
same_eq (x ∷ xs) (y ∷ ys) h =
    let p = and_true (eqb x y) (same xs ys) h in
    ap₂ ◌∷◌ (eqb-true x y p.0) (same_eq xs ys p.1)
