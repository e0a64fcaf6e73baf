-- The 16 bits of a value as the code has them: the value and 65,536 more, modulo 65,536.
use mathlib.Core.Path.{◌≡◌, refl, ap, ◌∙◌}
use Prim.Native.Nat.{suc, ◌%◌, ◌≤◌}
use native.Mathlib.Omega.{arith}
use borrow.Author.Tests.{le-ltb}
use lib.Dec.{T}
use lib.IntN.{ℤ, pos, negsuc, nat_abs, ◌+ℤ◌}
use lib.Signed.{non_neg, nat_abs-le}
use mir.Syntax.{w16, w64}
use mir.Val.{Fits, SFits, to_z, of_z}
use mir.Facts.{to_z-of_z}
use Rattle.integers.proofs.Bounds.{fits, abs_add}
use Rattle.sheet_output.specs.Output.{bits}

-- the sum is a natural number
lifted : (z : ℤ) → nat_abs z ≤ 32768 → z +ℤ pos 65536 ≡ pos (nat_abs (z +ℤ pos 65536))
lifted (pos n) h = refl
lifted (negsuc n) h = rw (le-ltb 65536 (suc n) (omega arith))

lifted_bits : (z : ℤ) → nat_abs z ≤ 32768 → nat_abs (z +ℤ pos 65536) % 65536 ≡ bits z
unfolding bits
lifted_bits (pos n) h = omega arith
lifted_bits (negsuc n) h = rw (le-ltb 65536 (suc n) (omega arith)) (omega arith)

module _ (z : ℤ) (f : SFits w16 z) where
  small : nat_abs z ≤ 32768
  small = nat_abs-le z f.sfits

  kept : to_z w16 (of_z w16 z) ≡ z
  kept = to_z-of_z f

  pub wide_fits : SFits w64 (to_z w16 (of_z w16 z))
  wide_fits = fits w64 32768 (rw kept small) tt

  wide : to_z w64 (of_z w64 (to_z w16 (of_z w16 z))) ≡ z
  wide = to_z-of_z wide_fits ∙ kept

  sum_small : nat_abs (to_z w64 (of_z w64 (to_z w16 (of_z w16 z))) +ℤ pos 65536) ≤ 98304
  sum_small = rw wide (omega (arith, small, abs_add z (pos 65536)))

  pub sum_fits : SFits w64 (to_z w64 (of_z w64 (to_z w16 (of_z w16 z))) +ℤ pos 65536)
  sum_fits = fits w64 98304 sum_small tt

  sum : to_z w64 (of_z w64 (to_z w64 (of_z w64 (to_z w16 (of_z w16 z))) +ℤ pos 65536)) ≡ z +ℤ pos 65536
  sum = to_z-of_z sum_fits ∙ ap (λ (y : ℤ). y +ℤ pos 65536) wide

  pub sum_cast : T (non_neg (to_z w64 (of_z w64 (to_z w64 (of_z w64 (to_z w16 (of_z w16 z))) +ℤ pos 65536)))) × Fits w64 (nat_abs (to_z w64 (of_z w64 (to_z w64 (of_z w64 (to_z w16 (of_z w16 z))) +ℤ pos 65536))))
  sum_cast = rw (sum, lifted z small) (tt, record { fits = omega (arith, small, abs_add z (pos 65536)) })

  pub sum_bits : nat_abs (to_z w64 (of_z w64 (to_z w64 (of_z w64 (to_z w16 (of_z w16 z))) +ℤ pos 65536))) % 65536 ≡ bits z
  sum_bits = rw sum (lifted_bits z small)
