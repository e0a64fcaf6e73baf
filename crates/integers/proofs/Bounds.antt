-- Machine integers by their absolute values: bounds on nat_abs, which omega reads, of sums, differences and products,
-- and that a signed integer of any width holds what is small enough. Assumes nothing.
use mathlib.Core.Path.{◌≡◌, refl}
use mathlib.Core.Bool.{Bool, true, false, cond}
use Prim.Native.Nat.{ℕ, zero, suc, ◌+◌, ◌*◌, ◌-◌, ◌^◌, ◌≤◌, ◌<◌}
use native.Mathlib.Nat.{le_refl, le_trans, mul-le-mul, lt_of_le_of_lt}
use native.Mathlib.Omega.{arith}
use borrow.Author.Tests.{ltb-true, le-ltb}
use lib.Dec.{T, ltb, lit<}
use lib.IntN.{ℤ, pos, negsuc, neg_ℤ, nat_abs, ◌+ℤ◌, ◌-ℤ◌, ◌*ℤ◌}
use lib.Signed.{mag}
use mir.Syntax.{Width}
use mir.Val.{SFits, hbits, to_z, of_z}
use mir.Facts.{to_z-of_z}

mag_le : (z : ℤ) → mag z ≤ nat_abs z
mag_le (pos n) = le_refl n
mag_le (negsuc n) = omega arith

-- an integer of at most b in absolute value fits a signed width with b below half its range: `fits w32 260000000 h tt`
pub fits : (w : Width) {z : ℤ} (b : ℕ) → nat_abs z ≤ b → T (ltb b (2 ^ hbits w)) → SFits w z
fits w {z} b h t = record { sfits = lt_of_le_of_lt (le_trans (mag_le z) h) (lit< t) }

-- and is read back from its bits
pub read : (w : Width) {z : ℤ} (b : ℕ) → nat_abs z ≤ b → T (ltb b (2 ^ hbits w)) → to_z w (of_z w z) ≡ z
read w b h t = to_z-of_z (fits w b h t)

pub abs_neg : (z : ℤ) → nat_abs (neg_ℤ z) ≡ nat_abs z
abs_neg (pos zero) = refl
abs_neg (pos (suc n)) = refl
abs_neg (negsuc n) = refl

abs_sub_nat : (t : Bool) (a b : ℕ) → ltb a b ≡ t → nat_abs (cond t (negsuc (b - suc a)) (pos (a - b))) ≤ a + b
abs_sub_nat true a b e = let h : a < b = ltb-true a b e in omega arith
abs_sub_nat false a b e = omega arith

pub abs_add : (a b : ℤ) → nat_abs (a +ℤ b) ≤ nat_abs a + nat_abs b
abs_add (pos a) (pos b) = le_refl (a + b)
abs_add (pos a) (negsuc b) = abs_sub_nat (ltb a (suc b)) a (suc b) refl
abs_add (negsuc a) (pos b) = omega (arith, abs_sub_nat (ltb b (suc a)) b (suc a) refl)
abs_add (negsuc a) (negsuc b) = omega arith

pub abs_sub : (a b : ℤ) → nat_abs (a -ℤ b) ≤ nat_abs a + nat_abs b
abs_sub a b = rw abs_neg at (abs_add a (neg_ℤ b))

pub abs_mul : (a b : ℤ) → nat_abs (a *ℤ b) ≡ nat_abs a * nat_abs b
abs_mul (pos a) (pos b) = refl
abs_mul (pos a) (negsuc b) = abs_neg (pos (a * suc b))
abs_mul (negsuc a) (pos b) = abs_neg (pos (suc a * b))
abs_mul (negsuc a) (negsuc b) = refl

pub abs_mul_le : (a b : ℤ) (m n : ℕ) → nat_abs a ≤ m → nat_abs b ≤ n → nat_abs (a *ℤ b) ≤ m * n
abs_mul_le a b m n h k = rw abs_mul (mul-le-mul h k)

-- a difference of naturals that is not below 0
pub pos_sub : (a b : ℕ) → b ≤ a → pos a -ℤ pos b ≡ pos (a - b)
pos_sub a zero h = let e : a + 0 ≡ a - 0 = omega arith in rw e
pos_sub a (suc b) h = rw (le-ltb a (suc b) h)
