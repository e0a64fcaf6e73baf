-- Signed machine integers: a size with its sign, and the size of an integer below 0.
use mathlib.Core.Path.{◌≡◌, refl, ap, ◌∙◌}
use mathlib.Core.Bool.{Bool, true, false, true≢false}
use Prim.Native.Nat.{ℕ, ◌+◌, ◌≤◌, ◌<◌}
use native.Mathlib.Omega.{arith}
use borrow.Author.Tests.{ltb-true}
use lib.Dec.{T}
use lib.IntN.{ℤ, pos, negsuc, neg_ℤ, nat_abs, ◌-ℤ◌, +ℤ_idl}
use lib.Signed.{lt_z, non_neg}
use mir.Syntax.{w64}
use mir.Val.{Fits, SFits, to_z, of_z}
use mir.ValLaws.{to_z_pos}
use Rattle.integers.proofs.Bounds.{fits, read, abs_neg}
use Rattle.rounding.specs.Rounding.{half_even, signed, rounded}

pub abs_signed : (s : Bool) (n : ℕ) → nat_abs (signed s n) ≡ n
abs_signed false n = refl
abs_signed true n = abs_neg (pos n)

module _ (n : ℕ) (h : n ≤ 9007199254740993) where
  pub size_kept : to_z w64 n ≡ signed false n
  size_kept = to_z_pos w64 n (omega arith)

  less : pos 0 -ℤ to_z w64 n ≡ signed true n
  less = ap (λ z. pos 0 -ℤ z) size_kept ∙ +ℤ_idl (neg_ℤ (pos n))

  bound : nat_abs (pos 0 -ℤ to_z w64 n) ≤ 9007199254740993
  bound = rw (less, abs_neg (pos n)) h

  pub minus_fits : SFits w64 (pos 0 -ℤ to_z w64 n)
  minus_fits = fits w64 9007199254740993 bound tt

  pub minus_kept : to_z w64 (of_z w64 (pos 0 -ℤ to_z w64 n)) ≡ signed true n
  minus_kept = read w64 9007199254740993 bound tt ∙ less

-- ---- an integer, and its size where it is below 0 and where it is not
below_zero : (z : ℤ) → lt_z z (pos 0) ≡ true → neg_ℤ z ≡ pos (nat_abs z)
below_zero (pos n) t = absurd (omega (arith, ltb-true n 0 t))
below_zero (negsuc n) t = refl

not_below : (z : ℤ) → lt_z z (pos 0) ≡ false → z ≡ pos (nat_abs z)
not_below (pos n) t = refl
not_below (negsuc n) t = absurd (true≢false t)

rounded_below : (z : ℤ) (d : ℕ) → lt_z z (pos 0) ≡ true → signed true (half_even (nat_abs z) d) ≡ rounded z d
unfolding rounded
rounded_below (pos n) d t = absurd (omega (arith, ltb-true n 0 t))
rounded_below (negsuc n) d t = refl

rounded_above : (z : ℤ) (d : ℕ) → lt_z z (pos 0) ≡ false → signed false (half_even (nat_abs z) d) ≡ rounded z d
unfolding rounded
rounded_above (pos n) d t = refl
rounded_above (negsuc n) d t = absurd (true≢false t)

module _ (z : ℤ) (h : nat_abs z ≤ 9007199254740992) where
  kept : to_z w64 (of_z w64 z) ≡ z
  kept = read w64 9007199254740992 h tt

  taken_from : pos 0 -ℤ to_z w64 (of_z w64 z) ≡ neg_ℤ z
  taken_from = ap (λ y. pos 0 -ℤ y) kept ∙ +ℤ_idl (neg_ℤ z)

  taken_bound : nat_abs (pos 0 -ℤ to_z w64 (of_z w64 z)) ≤ 9007199254740992
  taken_bound = rw (taken_from, abs_neg z) h

  pub taken_fits : SFits w64 (pos 0 -ℤ to_z w64 (of_z w64 z))
  taken_fits = fits w64 9007199254740992 taken_bound tt

  -- what the code has for the size is it
  pub size_below : lt_z (to_z w64 (of_z w64 z)) (pos 0) ≡ true → to_z w64 (of_z w64 (pos 0 -ℤ to_z w64 (of_z w64 z))) ≡ pos (nat_abs z)
  size_below t = read w64 9007199254740992 taken_bound tt ∙ taken_from ∙ below_zero z (rw kept at t)

  pub size_above : lt_z (to_z w64 (of_z w64 z)) (pos 0) ≡ false → to_z w64 (of_z w64 z) ≡ pos (nat_abs z)
  size_above t = kept ∙ not_below z (rw kept at t)

  -- a size that is cast to an unsigned integer
  pub cast : {y : ℤ} → y ≡ pos (nat_abs z) → T (non_neg y) × Fits w64 (nat_abs y)
  cast e = rw e (tt, record { fits = omega arith })

  pub size_small : {y : ℤ} → y ≡ pos (nat_abs z) → nat_abs y < 9223372036854775808
  size_small e = rw e (omega arith)

  pub rounding_small : {y : ℤ} → y ≡ pos (nat_abs z) → {q : ℕ} → q ≤ nat_abs y + 1 → q ≤ 9007199254740993
  rounding_small e k = let l = rw e at k in omega arith

  -- and what is returned of its rounding
  module _ (d : ℕ) {y : ℤ} (e : y ≡ pos (nat_abs z)) (q : ℕ) (eq : q ≡ half_even (nat_abs y) d) {r : ℤ} where
    pub returned_below : lt_z (to_z w64 (of_z w64 z)) (pos 0) ≡ true → r ≡ signed true q → r ≡ rounded z d
    returned_below t er = er ∙ rw (eq, e) (rounded_below z d (rw kept at t))

    pub returned_above : lt_z (to_z w64 (of_z w64 z)) (pos 0) ≡ false → r ≡ signed false q → r ≡ rounded z d
    returned_above t er = er ∙ rw (eq, e) (rounded_above z d (rw kept at t))
