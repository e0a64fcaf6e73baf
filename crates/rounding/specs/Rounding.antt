-- A fraction rounded to the nearest whole number, halves to even: what that means, and the function that computes it.
use Rattle.std.specs.Prelude.{◌≡◌, Bool, true, false, cond, ℕ, suc, ◌+◌, ◌*◌, ◌/◌, ◌%◌, ◌≤◌, ◌<◌, ltb, ℤ, pos, negsuc, neg_ℤ, nat_abs, ◌-ℤ◌, ◌*ℤ◌}

-- v is the whole number nearest to n / d: they differ, by (n - v d) / d, at most by a half, and where by a half v is even
pub record HalfEven (n : ℤ) (d : ℕ) (v : ℤ) : Type 0 where
  pub near : 2 * nat_abs (n -ℤ v *ℤ pos d) ≤ d
  pub tie : 2 * nat_abs (n -ℤ v *ℤ pos d) ≡ d → nat_abs v % 2 ≡ 0

-- ---- computed
-- the quotient q where the remainder is below a half of d, the next number where it is above, and at a half the even one of the two
unfoldable pub half_even : ℕ → ℕ → ℕ
half_even n d =
    let q = n / d in
    let r = n % d in
    cond (ltb (2 * r) d) q (cond (ltb d (2 * r)) (q + 1) (q + q % 2))

-- a number with a sign, negative where the sign is true; zero has none
abbrev pub signed : Bool → ℕ → ℤ
signed false n = pos n
signed true n = neg_ℤ (pos n)

-- n / d rounded: the size is rounded, and the sign stays
unfoldable pub rounded : ℤ → ℕ → ℤ
rounded (pos n) d = signed false (half_even n d)
rounded (negsuc n) d = signed true (half_even (suc n) d)

-- ---- what is proved of it
-- it has the property, and no other number has
pub record Rounding : Type 0 where
  pub rounds : (n : ℤ) (d : ℕ) → 0 < d → HalfEven n d (rounded n d)
  pub unique : (n : ℤ) (d : ℕ) (v w : ℤ) → 0 < d → HalfEven n d v → HalfEven n d w → v ≡ w
