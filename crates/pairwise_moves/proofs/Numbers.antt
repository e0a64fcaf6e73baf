-- The numbers of a move as the machine has them: the slope, the squared distance of two rows, and the amount. Assumes nothing.
use mathlib.Core.Path.{◌≡◌, refl, sym, ap, ◌∙◌}
use mathlib.Core.List.{List, [], ◌∷◌}
use Prim.Native.Nat.{ℕ, ◌+◌, ◌*◌, ◌-◌, ◌/◌, ◌≤◌, ◌<◌, min}
use native.Mathlib.Omega.{arith}
use borrow.Author.Tests.{eq-eqb, ne_eqb}
use lib.Dec.{T}
use lib.IntN.{ℤ, pos, negsuc, nat_abs, ◌+ℤ◌, ◌-ℤ◌, ◌*ℤ◌}
use lib.ListN.{length, get_or}
use lib.Signed.{◌≤ℤ◌, non_neg, yes_non_neg, pos-nat_abs}
use mir.Syntax.{w32, w64}
use mir.Val.{SFits, Fits, to_z, of_z}
use mir.Facts.{to_z-of_z}
use Rattle.integers.proofs.Solver.{◌⊕◌, ◌⊗◌, ◌⊝◌, x₀, x₁, x₂, x₃, solve}
use Rattle.integers.proofs.Bounds.{fits, read, abs_sub}
use Rattle.frank_wolfe.specs.Vectors.{subtract, inner, squared_norm}
use Rattle.pairwise.specs.Moves.{nearest_down, amount_of}
use Rattle.pairwise_moves.specs.Passes.{SlopeSized, Differ, ApartSized}

-- ---- The slope

module _ {a b : ℤ} (s : SlopeSized a b) where
  abbrev difference : ℤ
  difference = to_z w64 (of_z w64 a) -ℤ to_z w64 (of_z w64 b)

  difference_is : difference ≡ a -ℤ b
  difference_is = rw (read w64 {z = a} 33269760000000 s.first tt, read w64 {z = b} 33269760000000 s.second tt)

  size : nat_abs (a -ℤ b) ≤ 66539520000000
  size = omega (arith, abs_sub a b, s.first, s.second)

  pub slope_fits : SFits w64 difference
  slope_fits = rw difference_is (fits w64 66539520000000 size tt)

  slope_read : to_z w64 (of_z w64 difference) ≡ a -ℤ b
  slope_read = to_z-of_z slope_fits ∙ difference_is

  pub slope_cast : T (non_neg (to_z w64 (of_z w64 difference))) × Fits w64 (nat_abs (to_z w64 (of_z w64 difference)))
  slope_cast = rw slope_read (yes_non_neg s.sign, record { fits = omega (arith, size) })

  pub slope_result : pos (nat_abs (to_z w64 (of_z w64 difference))) ≡ a -ℤ b
  slope_result = rw slope_read (pos-nat_abs (a -ℤ b) (yes_non_neg s.sign))

-- ---- |v - s|² = <d, s> - <d, v>, where d = s - v

square_abs : (z : ℤ) → pos (nat_abs z * nat_abs z) ≡ z *ℤ z
square_abs (pos n) = refl
square_abs (negsuc n) = refl

pub apart_is : (v s : List ℤ) → length v ≡ length s → inner (subtract s v) s -ℤ inner (subtract s v) v ≡ pos (squared_norm (subtract v s))
unfolding inner subtract squared_norm
apart_is [] [] e = refl
apart_is [] (b ∷ s) e = absurd (omega arith)
apart_is (a ∷ v) [] e = absurd (omega arith)
apart_is (a ∷ v) (b ∷ s) e =
    solve (a ∷ b ∷ inner (subtract s v) s ∷ inner (subtract s v) v ∷ []) ((x₁ ⊝ x₀) ⊗ x₁ ⊕ x₂ ⊝ ((x₁ ⊝ x₀) ⊗ x₀ ⊕ x₃)) ((x₀ ⊝ x₁) ⊗ (x₀ ⊝ x₁) ⊕ (x₂ ⊝ x₃)) tt
    ∙ ap (λ z. (a -ℤ b) *ℤ (a -ℤ b) +ℤ z) (apart_is v s (omega arith))
    ∙ ap (λ z. z +ℤ pos (squared_norm (subtract v s))) (sym (square_abs (a -ℤ b)))

-- ---- Products of rows in 32 bits

-- the difference of two
module _ (x y : ℤ) (hx : nat_abs x ≤ 512000000) (hy : nat_abs y ≤ 512000000) where
  abbrev apart_by : ℤ
  apart_by = to_z w32 (of_z w32 x) -ℤ to_z w32 (of_z w32 y)

  apart_by_is : apart_by ≡ x -ℤ y
  apart_by_is = rw (read w32 {z = x} 512000000 hx tt, read w32 {z = y} 512000000 hy tt)

  apart_by_size : nat_abs (x -ℤ y) ≤ 1024000000
  apart_by_size = omega (arith, abs_sub x y, hx, hy)

  apart_by_fits : SFits w32 apart_by
  apart_by_fits = rw apart_by_is (fits w32 1024000000 apart_by_size tt)

  apart_by_read : to_z w32 (of_z w32 apart_by) ≡ x -ℤ y
  apart_by_read = to_z-of_z apart_by_fits ∙ apart_by_is

  -- where it is not below 0
  module _ (sign : pos 0 ≤ℤ (x -ℤ y)) where
    between_cast : T (non_neg (to_z w32 (of_z w32 apart_by))) × Fits w64 (nat_abs (to_z w32 (of_z w32 apart_by)))
    between_cast = rw apart_by_read (yes_non_neg sign, record { fits = omega (arith, apart_by_size) })

    between_result : pos (nat_abs (to_z w32 (of_z w32 apart_by))) ≡ x -ℤ y
    between_result = rw apart_by_read (pos-nat_abs (x -ℤ y) (yes_non_neg sign))

-- how far a boat's product is above another's
module _ {mem : List ℤ} {tk gv i : ℕ} (d : Differ mem tk gv i) where
  pub above_fits : SFits w32 (to_z w32 (of_z w32 (get_or mem (tk + i) (pos 0))) -ℤ to_z w32 (of_z w32 (get_or mem (gv + i) (pos 0))))
  above_fits = apart_by_fits (get_or mem (tk + i) (pos 0)) (get_or mem (gv + i) (pos 0)) d.take_size d.give_size

  pub above_read : to_z w32 (of_z w32 (to_z w32 (of_z w32 (get_or mem (tk + i) (pos 0))) -ℤ to_z w32 (of_z w32 (get_or mem (gv + i) (pos 0))))) ≡ get_or mem (tk + i) (pos 0) -ℤ get_or mem (gv + i) (pos 0)
  above_read = apart_by_read (get_or mem (tk + i) (pos 0)) (get_or mem (gv + i) (pos 0)) d.take_size d.give_size

-- and by how much more at `to` than at `from`
module _ {mem : List ℤ} {tk gv from to : ℕ} (z : ApartSized mem tk gv from to) {far near : ℤ} (ef : far ≡ get_or mem (tk + to) (pos 0) -ℤ get_or mem (gv + to) (pos 0))
    (en : near ≡ get_or mem (tk + from) (pos 0) -ℤ get_or mem (gv + from) (pos 0)) where
  far_size : nat_abs far ≤ 512000000
  far_size = rw ef z.at_to.size

  near_size : nat_abs near ≤ 512000000
  near_size = rw en z.at_from.size

  sign : pos 0 ≤ℤ (far -ℤ near)
  sign = rw (ef, en) z.sign

  pub apart_fits : SFits w32 (to_z w32 (of_z w32 far) -ℤ to_z w32 (of_z w32 near))
  apart_fits = apart_by_fits far near far_size near_size

  pub apart_cast : T (non_neg (to_z w32 (of_z w32 (to_z w32 (of_z w32 far) -ℤ to_z w32 (of_z w32 near))))) × Fits w64 (nat_abs (to_z w32 (of_z w32 (to_z w32 (of_z w32 far) -ℤ to_z w32 (of_z w32 near)))))
  apart_cast = between_cast far near far_size near_size sign

  pub apart_result : pos (nat_abs (to_z w32 (of_z w32 (to_z w32 (of_z w32 far) -ℤ to_z w32 (of_z w32 near))))) ≡
      (get_or mem (tk + to) (pos 0) -ℤ get_or mem (gv + to) (pos 0)) -ℤ (get_or mem (tk + from) (pos 0) -ℤ get_or mem (gv + from) (pos 0))
  apart_result = between_result far near far_size near_size sign ∙ rw (ef, en)

-- ---- The amount

module _ (slope apart held : ℕ) where
  pub amount_none : slope ≡ 0 → 0 ≡ amount_of slope apart held
  unfolding amount_of
  amount_none e = rw (eq-eqb slope 0 e)

  module _ (some : slope ≡ 0 → ⊥) where
    amount_least : min held ((2 * slope + apart - 1) / (2 * apart)) ≡ amount_of slope apart held
    unfolding amount_of nearest_down
    amount_least = rw (ne_eqb slope 0 some)

    pub amount_nearest : (2 * slope + apart - 1) / (2 * apart) < held → (2 * slope + apart - 1) / (2 * apart) ≡ amount_of slope apart held
    amount_nearest h = right held ((2 * slope + apart - 1) / (2 * apart)) h ∙ amount_least
      where
        right : (x y : ℕ) → y < x → y ≡ min x y
        right x y l = omega arith

    pub amount_held : held ≤ (2 * slope + apart - 1) / (2 * apart) → held ≡ amount_of slope apart held
    amount_held h = left held ((2 * slope + apart - 1) / (2 * apart)) h ∙ amount_least
      where
        left : (x y : ℕ) → x ≤ y → x ≡ min x y
        left x y l = omega arith
