-- The value of 16 bits as the code computes it, and the bound of a value in range.
use mathlib.Core.Path.{◌≡◌, refl}
use mathlib.Core.Bool.{Bool, true, false, cond}
use Prim.Native.Nat.{ℕ, suc, ◌+◌, ◌-◌, ◌%◌, ◌≤◌, ◌<◌}
use native.Mathlib.Omega.{arith}
use borrow.Author.Tests.{lt-ltb, le-ltb, ltb-true, ltb-false, leb-true}
use lib.Dec.{ltb}
use lib.IntN.{ℤ, pos, negsuc, nat_abs, ◌-ℤ◌}
use mir.Syntax.{w32}
use mir.Val.{to_z, SFits}
use mir.Facts.{to_z_pos}
use Rattle.files.specs.Bytes.{value, in_range}
use Rattle.integers.proofs.Bounds.{fits}

-- the two cases of `value`, by the test that parts them
shift_by : (t : Bool) (v m : ℕ) → ltb v 32768 ≡ t → v < 65536 → m ≡ (v + 32768) % 65536 → pos m -ℤ pos 32768 ≡ cond t (pos v) (negsuc (65535 - v))
shift_by true v m e k q =
    let h : v < 32768 = ltb-true v 32768 e in
    let f : m - 32768 ≡ v = omega arith in
    rw (le-ltb m 32768 (omega arith), f)
shift_by false v m e k q =
    let h : 32768 ≤ v = ltb-false v 32768 e in
    let f : 32768 - suc m ≡ 65535 - v = omega arith in
    rw (lt-ltb m 32768 (omega arith), f)

pub value_shifted : (v : ℕ) → v < 65536 → to_z w32 ((v + 32768) % 65536) -ℤ pos 32768 ≡ value v
unfolding value
value_shifted v k = rw (to_z_pos w32 {n = (v + 32768) % 65536} (omega arith)) (shift_by (ltb v 32768) v ((v + 32768) % 65536) refl k refl)

abs_by : (t : Bool) (v : ℕ) → ltb v 32768 ≡ t → nat_abs (cond t (pos v) (negsuc (65535 - v))) ≤ 32768
abs_by true v e = omega (arith, ltb-true v 32768 e)
abs_by false v e = omega (arith, ltb-false v 32768 e)

pub value_bound : (v : ℕ) → nat_abs (value v) ≤ 32768
unfolding value
value_bound v = abs_by (ltb v 32768) v refl

pub value_fits : (v : ℕ) → SFits w32 (value v)
value_fits v = fits w32 32768 (value_bound v) tt

pub in_range_bound : (z : ℤ) → in_range z ≡ true → nat_abs z ≤ 2000
unfolding in_range
in_range_bound (pos n) e = leb-true n 2000 e
in_range_bound (negsuc n) e = ltb-true n 2000 e
