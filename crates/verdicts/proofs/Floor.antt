-- The floor E - 2 G of a verdict fits an i64, also where it is below zero. Assumes nothing.
use mathlib.Core.Path.{◌≡◌, refl, ◌∙◌}
use mathlib.Core.Bool.{Bool, true, false, cond}
use Prim.Native.Nat.{ℕ, zero, suc, ◌*◌, ◌-◌, ◌≤◌, ◌<◌}
use native.Mathlib.Nat.{mul-le-mul, lt_of_le_of_lt}
use native.Mathlib.Omega.{arith}
use borrow.Author.Tests.{ltb-true}
use lib.Dec.{ltb, lit<}
use lib.IntN.{pos, negsuc, nat_abs, ◌-ℤ◌}
use mir.Syntax.{w64}
use mir.Val.{to_z, of_z, SFits, Fits}
use mir.Facts.{to_z-of_z, to_z_pos}
use Rattle.integers.proofs.Bounds.{fits}

-- a difference of two naturals is no farther from 0 than the greater of them
difference_within : (a b n : ℕ) → a ≤ n → b ≤ n → nat_abs (pos a -ℤ pos b) ≤ n
difference_within a zero n h k = omega arith
difference_within a (suc b) n h k = by (ltb a (suc b)) refl
  where
    by : (t : Bool) → ltb a (suc b) ≡ t → nat_abs (cond t (negsuc (suc b - suc a)) (pos (a - suc b))) ≤ n
    by true e = let l : a < suc b = ltb-true a (suc b) e in omega arith
    by false e = omega arith

module _ (e f : ℕ) (h : e < 9223372036854775808) (k : f < 9223372036854775808) where
  plain : to_z w64 e -ℤ to_z w64 f ≡ pos e -ℤ pos f
  plain = rw (to_z_pos w64 {n = e} (omega arith), to_z_pos w64 {n = f} (omega arith))

  pub floor_fits : SFits w64 (to_z w64 e -ℤ to_z w64 f)
  floor_fits = rw plain (fits w64 9223372036854775807 (difference_within e f 9223372036854775807 (omega arith) (omega arith)) tt)

  pub floor_read : to_z w64 (of_z w64 (to_z w64 e -ℤ to_z w64 f)) ≡ pos e -ℤ pos f
  floor_read = to_z-of_z floor_fits ∙ plain

-- the square of a u32 fits a u64
pub square_fits : (w : ℕ) → w < 4294967296 → Fits w64 (w * w)
square_fits w h = let k : w ≤ 4294967295 = omega arith in record { fits = lt_of_le_of_lt (mul-le-mul k k) (lit< tt) }
