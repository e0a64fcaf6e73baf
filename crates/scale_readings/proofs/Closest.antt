-- Fractions that are equal have the same rounding, and one below a half rounds to 0.
use mathlib.Core.Path.{◌≡◌, refl, sym, ap, ◌∙◌, subst}
use mathlib.Core.Bool.{Bool, true, false}
use Prim.Native.Nat.{ℕ, ◌+◌, ◌*◌, ◌/◌, ◌%◌, ◌≤◌, ◌<◌, compare, Ordering}
use native.Mathlib.Nat.{le_of_lt, lt_of_lt_of_le, lt_irrefl, div-eq_of_lt, mod-eq_of_lt}
use native.Mathlib.Omega.{arith}
use borrow.Author.Tests.{ltb-true, ltb-false}
use lib.Dec.{T, ltb, eqb, is_le, compare_is_eq, le→leb, leb→le, eqb→eq, eqb_refl}
use lib.Ieee.{nearest}
use lib.Ieee.Nearest.{closest, closest_same}
use Rattle.rounding.specs.Rounding.{half_even}
use Rattle.rounding.proofs.Nearest.{below_half, above_half, at_half}

-- what `compare` is, from an order
module _ (a b : ℕ) where
  is_lt : a < b → compare a b ≡ Ordering.lt
  is_lt h = go (compare a b) (le→leb a b (le_of_lt h)) (λ (e : T (compare_is_eq (compare a b))). lt_irrefl b (subst (λ (x : ℕ). x < b) (eqb→eq a b e) h))
    where
      go : (o : Ordering) → T (is_le o) → (T (compare_is_eq o) → ⊥) → o ≡ Ordering.lt
      go Ordering.lt t n = refl
      go Ordering.eq t n = absurd (n tt)
      go Ordering.gt t n = absurd t

  is_gt : b < a → compare a b ≡ Ordering.gt
  is_gt h = go (compare a b) (λ (t : T (is_le (compare a b))). lt_irrefl b (lt_of_lt_of_le h (leb→le a b t)))
    where
      go : (o : Ordering) → (T (is_le o) → ⊥) → o ≡ Ordering.gt
      go Ordering.lt n = absurd (n tt)
      go Ordering.eq n = absurd (n tt)
      go Ordering.gt n = refl

  is_eq : a ≡ b → compare a b ≡ Ordering.eq
  is_eq h = go (compare a b) (subst (λ (x : ℕ). T (eqb a x)) h (eqb_refl a))
    where
      go : (o : Ordering) → T (compare_is_eq o) → o ≡ Ordering.eq
      go Ordering.lt t = absurd t
      go Ordering.eq t = refl
      go Ordering.gt t = absurd t

-- `half_even` is the library's rounding
module _ (n d : ℕ) where
  by : (s t : Bool) → ltb (2 * (n % d)) d ≡ s → ltb d (2 * (n % d)) ≡ t → half_even n d ≡ closest n d
  by true t es et =
      let h : 2 * (n % d) < d = ltb-true (2 * (n % d)) d es in
      sym (below_half n d h) ∙ ap (nearest (n / d)) (sym (is_lt (n % d * 2) d (omega arith)))
  by false true es et =
      let h : d < 2 * (n % d) = ltb-true d (2 * (n % d)) et in
      sym (above_half n d h) ∙ next (n / d) ∙ ap (nearest (n / d)) (sym (is_gt (n % d * 2) d (omega arith)))
    where
      next : (q : ℕ) → q + 1 ≡ nearest q Ordering.gt
      next q = omega arith
  by false false es et =
      let h : d ≤ 2 * (n % d) = ltb-false (2 * (n % d)) d es in
      let k : 2 * (n % d) ≤ d = ltb-false d (2 * (n % d)) et in
      sym (at_half n d (omega arith)) ∙ ap (nearest (n / d)) (sym (is_eq (n % d * 2) d (omega arith)))

  half_even_closest : half_even n d ≡ closest n d
  half_even_closest = by (ltb (2 * (n % d)) d) (ltb d (2 * (n % d))) refl refl

pub half_even_same : (a b c d : ℕ) → 0 < b → 0 < d → a * d ≡ c * b → half_even a b ≡ half_even c d
half_even_same a b c d B D e = half_even_closest a b ∙ closest_same a b c d B D e ∙ sym (half_even_closest c d)

pub half_even_small : (a c : ℕ) → 2 * a < c → half_even a c ≡ 0
half_even_small a c h =
    let below : a < c = omega arith in
    sym (below_half a c (subst (λ (r : ℕ). 2 * r < c) (sym (mod-eq_of_lt below)) h)) ∙ div-eq_of_lt below
