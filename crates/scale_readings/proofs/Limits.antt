-- The limit tested by two comparisons of doubles is the limit of the exact value.
use mathlib.Core.Path.{◌≡◌, refl, sym, ap, ◌∙◌}
use mathlib.Core.Bool.{Bool, true, false, ◌&&◌, ◌||◌, and-true}
use mathlib.Core.Logic.{inl, inr}
use Prim.Native.Nat.{ℕ, ◌+◌, ◌*◌, ◌^◌, ◌<◌}
use native.Mathlib.Nat.{eq-or-lt_of_le, mul-one, add_comm}
use native.Mathlib.Omega.{arith}
use borrow.Author.Tests.{lt-ltb, le-ltb, eq-eqb, ne_eqb, eqb-true, eqb-false, leb-true, leb-false}
use lib.Dec.{leb, ltb, eqb}
use lib.IntN.{pos}
use lib.Ieee.{Float, nan, inf, fin, up, down, le, lt, eq, level}
use lib.Ieee.Fits.{down_pos}
use Rattle.integers.proofs.Bounds.{abs_neg}
use Rattle.scale_readings.specs.Readings.{is_finite, numerator, denominator, within_limit}

-- 1,048,576 and its negative
abbrev pub most : Float
most = fin false 1 (pos 20)

abbrev pub least : Float
least = fin true 1 (pos 20)

-- below or equal is at most, the equality written either way round
at_most : (x y : ℕ) → ltb x y || (eqb x y && true) ≡ leb x y
at_most x y = by (leb x y) refl
  where
    by : (t : Bool) → leb x y ≡ t → ltb x y || (eqb x y && true) ≡ t
    by true e = elim (eq-or-lt_of_le (leb-true x y e)) [
      | inl q ↦ simp (le-ltb x y (omega arith), eq-eqb x y q)
      | inr q ↦ simp (lt-ltb x y q)
    ]
    by false e = let h : y < x = leb-false x y e in simp (le-ltb x y (omega arith), ne_eqb x y (λ q. omega arith))

eqb_sym : (x y : ℕ) → eqb x y ≡ eqb y x
eqb_sym x y = by (eqb y x) refl
  where
    by : (t : Bool) → eqb y x ≡ t → eqb x y ≡ t
    by true e = eq-eqb x y (sym (eqb-true y x e))
    by false e = ne_eqb x y (λ q. eqb-false y x e (sym q))

positive : (b : Bool) (x : ℕ) → 0 < x → ltb 0 x || b ≡ true
positive b x h = simp (lt-ltb 0 x h)

-- the sizes a and 1,048,576 d, as the comparisons have them
sizes : (a d : ℕ) → leb (a * 1) (1 * 2 ^ 20 * d) ≡ leb a (1048576 * d)
sizes a d = rw mul-one

some : (a d : ℕ) → 0 < d → 0 < a * 1 + 1 * 2 ^ 20 * d
some a d h = omega arith

pub both_limits : (x : Float) → le least x && le x most ≡ within_limit x
unfolding le lt eq within_limit is_finite numerator denominator
both_limits nan = refl
both_limits (inf true) = refl
both_limits (inf false) = refl
both_limits (fin true m e) =
    let a = m * up e * 1 in
    let d = 1 * 2 ^ 20 * down e in
    ap (λ (b : Bool). b && le (fin true m e) most) (ap (λ (b : Bool). ltb a d || (b && true)) (eqb_sym d a) ∙ at_most a d)
    ∙ ap (λ (b : Bool). leb a d && b) (positive (level true a false d) (a + d) (some (m * up e) (down e) (down_pos e)))
    ∙ and-true (leb a d) ∙ sizes (m * up e) (down e) ∙ ap (λ (n : ℕ). leb n (1048576 * down e)) (sym (abs_neg (pos (m * up e))))
both_limits (fin false m e) =
    let a = m * up e * 1 in
    let d = 1 * 2 ^ 20 * down e in
    ap (λ (b : Bool). b && le (fin false m e) most) (positive (level true d false a) (d + a) (rw add_comm (some (m * up e) (down e) (down_pos e))))
    ∙ at_most a d ∙ sizes (m * up e) (down e)

-- what is left where the first comparison holds, and where it does not
module _ (x : Float) where
  pub upper_limit : le least x ≡ true → le x most ≡ within_limit x
  upper_limit h = ap (λ (b : Bool). b && le x most) (sym h) ∙ both_limits x

  pub below_limit : le least x ≡ false → false ≡ within_limit x
  below_limit h = ap (λ (b : Bool). b && le x most) (sym h) ∙ both_limits x
