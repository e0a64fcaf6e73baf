-- v - u, entry by entry, in 16 bits. Assumes nothing.
use mathlib.Core.Path.{◌≡◌, refl, sym, ◌∙◌}
use mathlib.Core.List.{List, [], ◌∷◌, ◌++◌}
use Prim.Native.Nat.{ℕ, zero, suc, ◌+◌, ◌*◌, ◌≤◌, ◌<◌}
use native.Mathlib.Omega.{arith}
use lib.IntN.{ℤ, pos, nat_abs, ◌-ℤ◌}
use lib.ListN.{length, get_or, drop, set}
use mir.Syntax.{w16, w32}
use mir.Val.{SFits, to_z, of_z}
use mir.Facts.{to_z-of_z}
use Rattle.integers.proofs.Bounds.{fits, read, abs_sub}
use Rattle.integers.proofs.Filling.{Filled, filled_start, filled_long, filled_more, filled_end}
use Rattle.files.specs.Bytes.{values, value, number}
use Rattle.files.proofs.Rows.{value_of_values, length_values}
use Rattle.frank_wolfe.specs.Vectors.{subtract}
use Rattle.frank_wolfe.proofs.Vectors.{length_subtract}
use Rattle.sums.specs.Operands.{Bounded}

entry_difference : (x y : List ℤ) (j : ℕ) → j < length x → j < length y → get_or (subtract x y) j (pos 0) ≡ get_or x j (pos 0) -ℤ get_or y j (pos 0)
unfolding subtract
entry_difference [] y j h k = absurd (omega arith)
entry_difference (a ∷ x) [] j h k = absurd (omega arith)
entry_difference (a ∷ x) (b ∷ y) zero h k = refl
entry_difference (a ∷ x) (b ∷ y) (suc j) h k = entry_difference x y j (omega arith) (omega arith)

-- the first j slots of `new` hold entries of v - u, the later ones are as in `old`; bs at `at` and ss at `from` hold v and u
pub record Differing (bs : List ℕ) (at : ℕ) (ss : List ℕ) (from c : ℕ) (old : List ℤ) (j : ℕ) (new : List ℤ) : Type 0 where
  pub filled : Filled old (subtract (values c (drop at bs)) (values c (drop from ss))) j new

pub differing_start : {bs : List ℕ} {at : ℕ} {ss : List ℕ} {from c : ℕ} {old : List ℤ} → Differing bs at ss from c old 0 old
differing_start = record { filled = filled_start }

module _ {bs : List ℕ} {at : ℕ} {ss : List ℕ} {from c : ℕ} {old : List ℤ} {j : ℕ} {new : List ℤ} (f : Differing bs at ss from c old j new) where
  abbrev whole : List ℤ
  whole = subtract (values c (drop at bs)) (values c (drop from ss))

  count : length whole ≡ c
  count = length_subtract (values c (drop at bs)) (values c (drop from ss)) (length_values c (drop at bs) ∙ sym (length_values c (drop from ss))) ∙ length_values c (drop at bs)

  pub differing_long : c ≤ length old → length new ≡ length old
  differing_long room = filled_long f.filled (rw count room)

  pub differing_end : c ≤ j → new ≡ whole ++ drop c old
  differing_end h = let e = filled_end f.filled (rw count h) in rw count at e

  module _ (room : c ≤ length old) (v : Bounded 2000 c (values c (drop at bs))) (u : Bounded 2000 c (values c (drop from ss))) (h : j < c)
      {x y : ℤ} (ex : x ≡ value (number (at + 2 * j) 2 bs)) (ey : y ≡ value (number (from + 2 * j) 2 ss)) where
    -- v - u as the machine has it, in 32 bits and in 16
    abbrev wide : ℤ
    wide = to_z w32 (of_z w32 x) -ℤ to_z w32 (of_z w32 y)

    x_size : nat_abs x ≤ 2000
    x_size = rw (ex, ← value_of_values c j at bs h) (v.each j h)

    y_size : nat_abs y ≤ 2000
    y_size = rw (ey, ← value_of_values c j from ss h) (u.each j h)

    wide_is : wide ≡ x -ℤ y
    wide_is = rw (read w32 {z = x} 2000 x_size tt, read w32 {z = y} 2000 y_size tt)

    size : nat_abs (x -ℤ y) ≤ 4000
    size = omega (arith, abs_sub x y, x_size, y_size)

    pub wide_fits : SFits w32 wide
    wide_fits = rw wide_is (fits w32 4000 size tt)

    pub narrow_fits : SFits w16 (to_z w32 (of_z w32 wide))
    narrow_fits = rw (to_z-of_z wide_fits, wide_is) (fits w16 4000 size tt)

    pub differing_more : Differing bs at ss from c old (j + 1) (set new j (to_z w16 (of_z w16 (to_z w32 (of_z w32 wide)))))
    differing_more =
        let z : to_z w16 (of_z w16 (to_z w32 (of_z w32 wide))) ≡ x -ℤ y = to_z-of_z narrow_fits ∙ to_z-of_z wide_fits ∙ wide_is in
        let g : x -ℤ y ≡ get_or whole j (pos 0) =
        sym (entry_difference (values c (drop at bs)) (values c (drop from ss)) j (rw length_values h) (rw length_values h)
        ∙ rw (value_of_values c j at bs h, value_of_values c j from ss h, ← ex, ← ey)) in
        record { filled = filled_more f.filled (rw count room) (pos 0) (rw count h) (z ∙ g) }
