-- E + w (a - b) in an i64. Assumes nothing.
use mathlib.Core.Path.{◌≡◌, ◌∙◌}
use Prim.Native.Nat.{ℕ, ◌*◌, ◌≤◌}
use native.Mathlib.Omega.{arith}
use lib.Dec.{T}
use lib.IntN.{ℤ, pos, nat_abs, ◌+ℤ◌, ◌-ℤ◌, ◌*ℤ◌}
use lib.Signed.{non_neg, yes_non_neg, pos-nat_abs}
use mir.Syntax.{w64}
use mir.Val.{SFits, Fits, to_z, of_z}
use mir.Facts.{to_z-of_z, to_z_pos}
use Rattle.integers.proofs.Bounds.{fits, read, abs_add, abs_sub, abs_mul_le}
use Rattle.sums.specs.Operands.{GapSized}
use Rattle.files.specs.Limits.{total_limit}

module _ {e w : ℕ} {a b : ℤ} (s : GapSized e w a b) where
  -- a - b, times w, and added to E, as the machine has them
  abbrev spread : ℤ
  spread = to_z w64 (of_z w64 a) -ℤ to_z w64 (of_z w64 b)

  abbrev product : ℤ
  product = to_z w64 w *ℤ to_z w64 (of_z w64 spread)

  abbrev gap : ℤ
  gap = to_z w64 e +ℤ to_z w64 (of_z w64 product)

  spread_size : nat_abs (a -ℤ b) ≤ 1024000000 * w
  spread_size = omega (arith, abs_sub a b, s.first, s.second)

  -- 512,000,000 × 64,980
  side : (z : ℤ) → nat_abs z ≤ 512000000 * w → to_z w64 (of_z w64 z) ≡ z
  side z h = read w64 33269760000000 (omega (arith, h, s.few_shares)) tt

  spread_is : spread ≡ a -ℤ b
  spread_is = rw (side a s.first, side b s.second)

  pub spread_fits : SFits w64 spread
  spread_fits = rw spread_is (fits w64 66539520000000 (omega (arith, spread_size, s.few_shares)) tt)

  product_is : product ≡ pos w *ℤ (a -ℤ b)
  product_is = rw (to_z_pos w64 {n = w} (omega (arith, s.few_shares)), to_z-of_z spread_fits, spread_is)

  -- 64,980 × 66,539,520,000,000, below 2^62
  product_size : nat_abs (pos w *ℤ (a -ℤ b)) ≤ 4323738009600000000
  product_size = abs_mul_le (pos w) (a -ℤ b) total_limit 66539520000000 s.few_shares (omega (arith, spread_size, s.few_shares))

  pub product_fits : SFits w64 product
  product_fits = rw product_is (fits w64 4323738009600000000 product_size tt)

  gap_is : gap ≡ pos e +ℤ pos w *ℤ (a -ℤ b)
  gap_is = rw (to_z_pos w64 {n = e} (omega (arith, s.distance)), to_z-of_z product_fits, product_is)

  gap_size : nat_abs (pos e +ℤ pos w *ℤ (a -ℤ b)) ≤ 8935424028027387904
  gap_size = omega (arith, abs_add (pos e) (pos w *ℤ (a -ℤ b)), product_size, s.distance)

  pub gap_fits : SFits w64 gap
  gap_fits = rw gap_is (fits w64 8935424028027387904 gap_size tt)

  gap_read : to_z w64 (of_z w64 gap) ≡ pos e +ℤ pos w *ℤ (a -ℤ b)
  gap_read = to_z-of_z gap_fits ∙ gap_is

  pub gap_cast : T (non_neg (to_z w64 (of_z w64 gap))) × Fits w64 (nat_abs (to_z w64 (of_z w64 gap)))
  gap_cast = rw gap_read (yes_non_neg s.sign, record { fits = omega (arith, gap_size) })

  pub gap_result : pos (nat_abs (to_z w64 (of_z w64 gap))) ≡ pos e +ℤ pos w *ℤ (a -ℤ b)
  gap_result = rw gap_read (pos-nat_abs (pos e +ℤ pos w *ℤ (a -ℤ b)) (yes_non_neg s.sign))
