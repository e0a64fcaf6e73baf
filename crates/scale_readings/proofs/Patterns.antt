-- The exact value of a double from its bits: its sign, its exponent field and its fraction field.
use mathlib.Core.Path.{◌≡◌, refl, sym, ap, ◌∙◌, subst}
use mathlib.Core.Bool.{Bool, true, false, not, cond, true≢false}
use Prim.Native.Nat.{ℕ, zero, suc, ◌+◌, ◌-◌, ◌*◌, ◌/◌, ◌%◌, ◌^◌, ◌≤◌, ◌<◌}
use native.Mathlib.Nat.{le_trans, le_of_eq, lt_of_lt_of_le, lt_irrefl, lt_of_not-le, mul_assoc, mul_right_comm, mul-one, mul-le-mul_right, le_of_mul-le-mul_right, le-add_right}
use native.Mathlib.Omega.{arith}
use borrow.Author.Tests.{leb-true}
use lib.Dec.{T, leb, eqb, lit≤}
use lib.Pow.{pow-add, pow_pos, pow_mono, shl_lt}
use lib.Ieee.{Float, nan, inf, fin, binary64, up, down, odd, fits, is_nan, of_fields, of_bits, to_bits}
use lib.Ieee.Fits.{down_pos}
use lib.Ieee.Bits.{of_bits-to_bits}
use lib.Ieee.Exact.{HasValue, odd_sign}
use Rattle.rounding.specs.Rounding.{half_even, signed}
use Rattle.rounding.proofs.Nearest.{rounded_signed}
use Rattle.rounding.proofs.Signs.{abs_signed}
use Rattle.scale_readings.specs.Readings.{is_finite, numerator, denominator, most_kilograms, within_limit, whole}
use Rattle.scale_readings.specs.Patterns.{magnitude}
use Rattle.scale_readings.proofs.Closest.{half_even_same, half_even_small}

-- ---- the fields, in units of 2 ^ -1074
with_lead : (t : ℕ) → t < 2 ^ 52 → 2 ^ 52 + t < 2 ^ 53
with_lead t h = omega arith

twice : (a k : ℕ) → a < 2 ^ k → 2 * a < 2 ^ (k + 1)
twice a k h = subst (λ (z : ℕ). 2 * a < z) (sym (pow-add 2 k 1)) (omega arith)

-- below a half
pub tiny : (x t : ℕ) → x < 1022 → t < 2 ^ 52 → 0 ≡ half_even (magnitude x t) (2 ^ 1074)
unfolding magnitude
tiny zero t h l =
    let k : 52 + 1 ≤ 1074 = lit≤ tt in
    sym (half_even_small t (2 ^ 1074) (lt_of_lt_of_le (twice t 52 l) (pow_mono k)))
tiny (suc j) t h l =
    let k : 53 + j + 1 ≤ 1074 = go j h in
    sym (half_even_small ((2 ^ 52 + t) * 2 ^ j) (2 ^ 1074) (lt_of_lt_of_le (twice ((2 ^ 52 + t) * 2 ^ j) (53 + j) (shl_lt 53 j (with_lead t l))) (pow_mono k)))
  where
    go : (j : ℕ) → suc j < 1022 → 53 + j + 1 ≤ 1074
    go j h = omega arith

-- a leading digit and the fraction over a power of 2
pub shifted : (x t : ℕ) → 1022 ≤ x → x ≤ 1074 → half_even (2 ^ 52 + t) (2 ^ (1075 - x)) ≡ half_even (magnitude x t) (2 ^ 1074)
unfolding magnitude
shifted zero t h l = absurd (omega arith)
shifted (suc j) t h l =
    let q = 2 ^ 52 + t in
    let e : j + (1075 - suc j) ≡ 1074 = omega arith in
    half_even_same q (2 ^ (1075 - suc j)) (q * 2 ^ j) (2 ^ 1074) (pow_pos (1075 - suc j)) (pow_pos 1074)
    (ap (λ (z : ℕ). q * 2 ^ z) (sym e) ∙ ap (λ (z : ℕ). q * z) (pow-add 2 j (1075 - suc j)) ∙ sym (mul_assoc q (2 ^ j) (2 ^ (1075 - suc j))))

-- ---- the value that the fields stand for
fields_value : (s : Bool) (x t : ℕ) → is_finite (of_fields binary64 s x t) ≡ true → HasValue (of_fields binary64 s x t) s (magnitude x t) (2 ^ 1074)
unfolding of_fields magnitude is_finite
fields_value s zero t f = subst (λ (a : ℕ). HasValue (odd 53 s t 0 1074) s a (2 ^ 1074)) (mul-one t) (odd_sign 53 s t 0 1074)
fields_value s (suc j) t f = go (eqb (suc j) 2047) (eqb t 0) f
  where
    go : (a b : Bool) → is_finite (cond a (cond b (inf s) nan) (odd 53 s (2 ^ 52 + t) j 1074)) ≡ true → HasValue (cond a (cond b (inf s) nan) (odd 53 s (2 ^ 52 + t) j 1074)) s ((2 ^ 52 + t) * 2 ^ j) (2 ^ 1074)
    go true true f = absurd (true≢false (sym f))
    go true false f = absurd (true≢false (sym f))
    go false b f = odd_sign 53 s (2 ^ 52 + t) j 1074

-- ---- a value in two forms
by_value : (x : Float) (s : Bool) (a c : ℕ) → 0 < c → HasValue x s a c → signed s (half_even a c) ≡ whole x
unfolding whole numerator denominator
by_value nan s a c C h = absurd h
by_value (inf t) s a c C h = absurd h
by_value (fin t m e) s a c C h =
    ap (λ (b : Bool). signed b (half_even a c)) (sym h.0)
    ∙ ap (signed t) (sym (half_even_same (m * up e) (down e) a c (down_pos e) C h.1))
    ∙ sym (rounded_signed t (m * up e) (down e) (down_pos e))

within_value : (x : Float) (s : Bool) (a c : ℕ) → within_limit x ≡ true → HasValue x s a c → a ≤ most_kilograms * c
unfolding within_limit is_finite numerator denominator
within_value nan s a c k h = absurd h
within_value (inf t) s a c k h = absurd h
within_value (fin t m e) s a c k h =
    let l : m * up e ≤ most_kilograms * down e = subst (λ (n : ℕ). n ≤ most_kilograms * down e) (abs_signed t (m * up e)) (leb-true _ _ k) in
    le_of_mul-le-mul_right (le_trans (le_of_eq (sym h.1)) (le_trans (mul-le-mul_right c l) (le_of_eq (mul_right_comm most_kilograms (down e) c)))) (down_pos e)

-- ---- how large the exponent field is at the limit
pow_le_back : (i p : ℕ) → 2 ^ i ≤ 2 ^ p → i < p + 1
pow_le_back i p h = lt_of_not-le (λ (g : p + 1 ≤ i). lt_irrefl (2 ^ p) (lt_of_lt_of_le (go p) (le_trans (pow_mono g) h)))
  where
    go : (p : ℕ) → 2 ^ p < 2 ^ (p + 1)
    go p = subst (λ (z : ℕ). 2 ^ p < z) (sym (pow-add 2 p 1)) (omega (arith, pow_pos p))

exponent_small : (x t : ℕ) → magnitude x t ≤ 2 ^ 20 * 2 ^ 1074 → x ≤ 1074
unfolding magnitude
exponent_small zero t h = lit≤ tt
exponent_small (suc j) t h =
    go j (pow_le_back (52 + j) 1094 (le_trans (le_trans (le_of_eq (pow-add 2 52 j)) (mul-le-mul_right (2 ^ j) (le-add_right (2 ^ 52) t))) (le_trans h (le_of_eq (sym (pow-add 2 20 1074))))))
  where
    go : (j : ℕ) → 52 + j < 1095 → suc j ≤ 1074
    go j h = omega arith

-- ---- a double within the limit, and its bits b
pub no_nan : (x : Float) → within_limit x ≡ true → T (not (is_nan x))
unfolding within_limit is_finite is_nan
no_nan nan k = absurd (true≢false (sym k))
no_nan (inf s) k = tt
no_nan (fin s m e) k = tt

is_number : (x : Float) → within_limit x ≡ true → is_finite x ≡ true
unfolding within_limit is_finite
is_number nan k = k
is_number (inf s) k = k
is_number (fin s m e) k = refl

module _ (x : Float) (F : T (fits binary64 x)) (W : within_limit x ≡ true) where
  abbrev b : ℕ
  b = to_bits binary64 x

  back : of_bits binary64 b ≡ x
  back = of_bits-to_bits binary64 x F

  finite : is_finite x ≡ true
  finite = is_number x W

  value : HasValue x (leb (2 ^ 63) b) (magnitude (b % 2 ^ 63 / 2 ^ 52) (b % 2 ^ 52)) (2 ^ 1074)
  unfolding of_bits
  value =
      subst (λ (k : Float). HasValue k (leb (2 ^ 63) b) (magnitude (b % 2 ^ 63 / 2 ^ 52) (b % 2 ^ 52)) (2 ^ 1074)) back
      (fields_value (leb (2 ^ 63) b) (b % 2 ^ 63 / 2 ^ 52) (b % 2 ^ 52) (subst (λ (k : Float). is_finite k ≡ true) (sym back) finite))

  pub exponent_fits : b % 2 ^ 63 / 2 ^ 52 ≤ 1074
  exponent_fits =
      exponent_small (b % 2 ^ 63 / 2 ^ 52) (b % 2 ^ 52) (within_value x (leb (2 ^ 63) b) (magnitude (b % 2 ^ 63 / 2 ^ 52) (b % 2 ^ 52)) (2 ^ 1074) W value)

  pub whole_is : signed (leb (2 ^ 63) b) (half_even (magnitude (b % 2 ^ 63 / 2 ^ 52) (b % 2 ^ 52)) (2 ^ 1074)) ≡ whole x
  whole_is = by_value x (leb (2 ^ 63) b) (magnitude (b % 2 ^ 63 / 2 ^ 52) (b % 2 ^ 52)) (2 ^ 1074) (pow_pos 1074) value
