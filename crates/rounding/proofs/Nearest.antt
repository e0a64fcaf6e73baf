-- `rounded` is nearest, even on a tie, and the only number that is; the cases in which `half_even` gives each of its answers.
use mathlib.Core.Path.{◌≡◌, refl, sym, ap, ◌∙◌}
use mathlib.Core.Bool.{Bool, true, false, cond}
use mathlib.Core.List.{[], ◌∷◌}
use mathlib.Core.Logic.{◌⊎◌, inl, inr}
use Prim.Native.Nat.{ℕ, zero, suc, ◌+◌, ◌-◌, ◌*◌, ◌/◌, ◌%◌, ◌≤◌, ◌<◌}
use native.Mathlib.Nat.{mod-lt, div-add-mod', add-mul, one-mul, le_of_mul-le-mul_right, zero-div, zero-mod}
use native.Mathlib.Omega.{arith}
use borrow.Author.Tests.{lt-ltb, le-ltb, ltb-true, ltb-false}
use lib.Dec.{ltb}
use lib.IntN.{ℤ, pos, negsuc, neg_ℤ, nat_abs, neg_ℤ-neg_ℤ, ◌-ℤ◌, ◌*ℤ◌}
use Rattle.integers.proofs.Bounds.{abs_neg, abs_sub, abs_mul}
use Rattle.integers.proofs.Solver.{◌⊗◌, ⊖◌, ◌⊝◌, x₀, x₁, x₂, x₃, solve}
use Rattle.rounding.specs.Rounding.{HalfEven, half_even, signed, rounded, Rounding}

-- ---- the three answers
module _ (n d : ℕ) where
  pub below_half : 2 * (n % d) < d → n / d ≡ half_even n d
  unfolding half_even
  below_half h = simp (lt-ltb _ _ h)

  pub above_half : d < 2 * (n % d) → n / d + 1 ≡ half_even n d
  unfolding half_even
  above_half h = simp (le-ltb (2 * (n % d)) d (omega arith), lt-ltb _ _ h)

  pub at_half : 2 * (n % d) ≡ d → n / d + n / d % 2 ≡ half_even n d
  unfolding half_even
  at_half h = simp (le-ltb (2 * (n % d)) d (omega arith), le-ltb d (2 * (n % d)) (omega arith))

-- ---- sizes of differences
abs_minus_by : (t : Bool) (a b : ℕ) → ltb a b ≡ t → nat_abs (cond t (negsuc (b - suc a)) (pos (a - b))) ≡ (a - b) + (b - a)
abs_minus_by true a b e = let h : a < b = ltb-true a b e in omega arith
abs_minus_by false a b e = let h : b ≤ a = ltb-false a b e in omega arith

pub abs_minus : (a b : ℕ) → nat_abs (pos a -ℤ pos b) ≡ (a - b) + (b - a)
abs_minus a zero = omega arith
abs_minus a (suc b) = abs_minus_by (ltb a (suc b)) a (suc b) refl

-- ---- near, and even on a tie, of sizes
record Near (n d v : ℕ) : Type 0 where
  off : 2 * ((n - v * d) + (v * d - n)) ≤ d
  even : 2 * ((n - v * d) + (v * d - n)) ≡ d → v % 2 ≡ 0

module _ (n d : ℕ) (D : 0 < d) where
  whole : n / d * d + n % d ≡ n
  whole = div-add-mod' n d

  small : n % d < d
  small = mod-lt n D

  next : (n / d + 1) * d ≡ n / d * d + d
  next = add-mul (n / d) 1 d ∙ ap (λ k. n / d * d + k) (one-mul d)

  -- the quotient, where the remainder is at most a half, even on a tie
  lower : 2 * (n % d) ≤ d → (2 * (n % d) ≡ d → n / d % 2 ≡ 0) → Near n d (n / d)
  lower h e = let w = whole in record { off = omega arith; even = λ t. e (omega arith) }

  -- the next number, where it is at least a half
  upper : d ≤ 2 * (n % d) → (2 * (n % d) ≡ d → (n / d + 1) % 2 ≡ 0) → Near n d (n / d + 1)
  upper h e = let w = whole in let k = small in let s = next in record { off = omega arith; even = λ t. e (omega arith) }

  parity : (q : ℕ) → (q % 2 ≡ 0) ⊎ (q % 2 ≡ 1)
  parity q = by (q % 2) refl
    where
      by : (k : ℕ) → q % 2 ≡ k → (q % 2 ≡ 0) ⊎ (q % 2 ≡ 1)
      by zero e = inl e
      by (suc zero) e = inr e
      by (suc (suc k)) e = absurd (omega arith)

  near_by : (s t : Bool) → ltb (2 * (n % d)) d ≡ s → ltb d (2 * (n % d)) ≡ t → Near n d (cond s (n / d) (cond t (n / d + 1) (n / d + n / d % 2)))
  near_by true t es et = let h = ltb-true (2 * (n % d)) d es in lower (omega arith) (λ e. absurd (omega arith))
  near_by false true es et = let h = ltb-true d (2 * (n % d)) et in upper (omega arith) (λ e. absurd (omega arith))
  near_by false false es et =
      let h = ltb-false (2 * (n % d)) d es in
      let k = ltb-false d (2 * (n % d)) et in
      elim (parity (n / d)) [
        | inl p ↦ let z : n / d + n / d % 2 ≡ n / d = omega arith in rw z (lower (omega arith) (λ e. p))
        | inr p ↦ let z : n / d + n / d % 2 ≡ n / d + 1 = omega arith in rw z (upper (omega arith) (λ e. omega arith))
      ]

near : (n d : ℕ) → 0 < d → Near n d (half_even n d)
unfolding half_even
near n d D = near_by n d D (ltb (2 * (n % d)) d) (ltb d (2 * (n % d))) refl refl

-- ---- with a sign
negate_off : (n v d : ℤ) → neg_ℤ n -ℤ neg_ℤ v *ℤ d ≡ neg_ℤ (n -ℤ v *ℤ d)
negate_off n v d = solve (n ∷ v ∷ d ∷ []) (⊖ x₀ ⊝ (⊖ x₁) ⊗ x₂) (⊖ (x₀ ⊝ x₁ ⊗ x₂)) tt

half_even_negated : {n : ℤ} {d : ℕ} {v : ℤ} → HalfEven n d v → HalfEven (neg_ℤ n) d (neg_ℤ v)
half_even_negated {n} {d} {v} h =
    let e : nat_abs (neg_ℤ n -ℤ neg_ℤ v *ℤ pos d) ≡ nat_abs (n -ℤ v *ℤ pos d) = ap nat_abs (negate_off n v (pos d)) ∙ abs_neg (n -ℤ v *ℤ pos d) in
    record { near = rw e h.near; tie = λ t. rw abs_neg (h.tie (rw e at t)) }

half_even_plain : {n d v : ℕ} → Near n d v → HalfEven (pos n) d (pos v)
half_even_plain {n} {d} {v} h = let e = abs_minus n (v * d) in record { near = rw e h.off; tie = λ t. h.even (rw e at t) }

rounds : (n : ℤ) (d : ℕ) → 0 < d → HalfEven n d (rounded n d)
unfolding rounded
rounds (pos n) d D = half_even_plain (near n d D)
rounds (negsuc n) d D = half_even_negated (half_even_plain (near (suc n) d D))

-- the size and the sign apart, as a float has them
pub rounded_signed : (s : Bool) (n d : ℕ) → 0 < d → rounded (signed s n) d ≡ signed s (half_even n d)
unfolding rounded
rounded_signed false n d D = refl
rounded_signed true zero d D = ap (λ k. signed false k) z ∙ sym (ap (λ k. signed true k) z)
  where
    none : 2 * (0 % d) < d
    none = rw (zero-mod d) (omega arith)

    z : half_even 0 d ≡ 0
    z = sym (below_half 0 d none) ∙ zero-div d
rounded_signed true (suc n) d D = refl

-- ---- no other number
-- at most one number apart, and neither odd
same_size : (a b : ℕ) → (a - b) + (b - a) ≤ 1 → ((a - b) + (b - a) ≡ 1 → (a % 2 ≡ 0) × (b % 2 ≡ 0)) → a ≡ b
same_size a b h e = by ((a - b) + (b - a)) refl h
  where
    by : (k : ℕ) → (a - b) + (b - a) ≡ k → k ≤ 1 → a ≡ b
    by zero p h = omega arith
    by (suc zero) p h = let f = e p in absurd (omega (arith, f.0, f.1))
    by (suc (suc k)) p h = absurd (omega arith)

-- the same of integers, first where one is not below 0
abbrev NextTo : ℤ → ℤ → Type 0
NextTo v w = (nat_abs (v -ℤ w) ≤ 1) × (nat_abs (v -ℤ w) ≡ 1 → (nat_abs v % 2 ≡ 0) × (nat_abs w % 2 ≡ 0))

same_plain : (a : ℕ) (w : ℤ) → NextTo (pos a) w → pos a ≡ w
same_plain a (pos b) h = ap pos (same_size a b (rw abs_minus at h.0) (λ k. h.1 (abs_minus a b ∙ k)))
same_plain a (negsuc b) h = let f = h.1 (omega (arith, h.0)) in absurd (omega (arith, h.0, f.1))

negate_both : (v w : ℤ) → nat_abs (neg_ℤ v -ℤ neg_ℤ w) ≡ nat_abs (v -ℤ w)
negate_both v w = ap nat_abs (solve (v ∷ w ∷ []) (⊖ x₀ ⊝ (⊖ x₁)) (⊖ (x₀ ⊝ x₁)) tt) ∙ abs_neg (v -ℤ w)

same_number : (v w : ℤ) → NextTo v w → v ≡ w
same_number (pos a) w h = same_plain a w h
same_number (negsuc a) w h =
    let e = negate_both (negsuc a) w in
    ap neg_ℤ (same_plain (suc a) (neg_ℤ w) (rw e h.0, λ k. let f = h.1 (sym e ∙ k) in (f.0, rw abs_neg f.1))) ∙ neg_ℤ-neg_ℤ w

apart : (n v w d : ℤ) → (v -ℤ w) *ℤ d ≡ (n -ℤ w *ℤ d) -ℤ (n -ℤ v *ℤ d)
apart n v w d = solve (n ∷ v ∷ w ∷ d ∷ []) ((x₁ ⊝ x₂) ⊗ x₃) ((x₀ ⊝ x₂ ⊗ x₃) ⊝ (x₀ ⊝ x₁ ⊗ x₃)) tt

unique : (n : ℤ) (d : ℕ) (v w : ℤ) → 0 < d → HalfEven n d v → HalfEven n d w → v ≡ w
unique n d v w D hv hw =
    let a = nat_abs (n -ℤ v *ℤ pos d) in
    let b = nat_abs (n -ℤ w *ℤ pos d) in
    let k = nat_abs (v -ℤ w) in
    let far : k * d ≤ b + a = rw (← abs_mul (v -ℤ w) (pos d), apart n v w (pos d)) (abs_sub (n -ℤ w *ℤ pos d) (n -ℤ v *ℤ pos d)) in
    let p : 2 * a ≤ d = hv.near in
    let q : 2 * b ≤ d = hw.near in
    let one : k ≤ 1 = le_of_mul-le-mul_right (omega (arith, one-mul d)) D in
    same_number v w (one, λ e. let f : 1 * d ≤ b + a = rw e at far in (hv.tie (omega (arith, one-mul d)), hw.tie (omega (arith, one-mul d))))

pub rounding : Rounding
rounding = record { rounds = rounds; unique = unique }
