-- A residual moved by k (v - u), entry by entry. Assumes nothing.
use mathlib.Core.Path.{◌≡◌, refl, sym, ap, ◌∙◌}
use mathlib.Core.List.{List, [], ◌∷◌, ◌++◌, append_assoc}
use Prim.Native.Nat.{ℕ, suc, ◌+◌, ◌*◌, ◌-◌, ◌≤◌, ◌<◌}
use native.Mathlib.Nat.{le_refl}
use native.Mathlib.Omega.{arith}
use native.Mathlib.Numerals.{add-one}
use lib.IntN.{ℤ, pos, nat_abs, ◌+ℤ◌, ◌-ℤ◌, ◌*ℤ◌}
use lib.ListN.{length, get_or, drop, take, set, length-set, take-append-drop}
use lib.Seq.{slice, slice-cons, slice_empty, take-suc-set, take-set-lt, drop-set-lt, get_or-set_other}
use mir.Syntax.{w32}
use mir.Val.{SFits, to_z, of_z}
use mir.Facts.{to_z-of_z, to_z_pos}
use Rattle.integers.proofs.Bounds.{fits, read, abs_add, abs_sub, abs_mul_le}
use Rattle.files.specs.Bytes.{values, value, number}
use Rattle.files.proofs.Rows.{values_suc, value_of_values}
use Rattle.files.specs.Limits.{entry_limit}
use Rattle.frank_wolfe.specs.Vectors.{add, subtract, scale}
use Rattle.sums.specs.Operands.{Movable}

-- ys is r with its first j entries moved; bs at `at` and ss at `from` hold v and u
pub record Moving (bs : List ℕ) (at : ℕ) (ss : List ℕ) (from c k : ℕ) (r : List ℤ) (j : ℕ) (ys : List ℤ) : Type 0 where
  pub within : j ≤ c
  pub long : length ys ≡ 64
  pub later : (i : ℕ) → j ≤ i → get_or ys i (pos 0) ≡ get_or r i (pos 0)
  pub rest :
      take j ys ++ (add (slice j c ys) (scale k (subtract (values (c - j) (drop (at + 2 * j) bs)) (values (c - j) (drop (from + 2 * j) ss)))) ++ drop c ys)
      ≡ add (take c r) (scale k (subtract (values c (drop at bs)) (values c (drop from ss)))) ++ drop c r

pub move_start : {bs : List ℕ} {at : ℕ} {ss : List ℕ} {from c k : ℕ} {r : List ℤ} → length r ≡ 64 → Moving bs at ss from c k r 0 r
move_start {bs} {at} {ss} {from} {c} l =
    let e : c - 0 ≡ c = omega arith in
    let p : at + 2 * 0 ≡ at = omega arith in
    let q : from + 2 * 0 ≡ from = omega arith in
    record { within = omega arith; long = l; later = λ i h. refl; rest = rw (e, p, q) }

-- a store at j: what stands before it, and after it up to c
store_front : (ys : List ℤ) (j : ℕ) (a : ℤ) → j < length ys → take (j + 1) (set ys j a) ≡ take j ys ++ (a ∷ [])
store_front ys j a l = ap (λ (n : ℕ). take n (set ys j a)) (add-one j) ∙ take-suc-set ys j a l

store_back : (ys : List ℤ) (j c : ℕ) (a : ℤ) → j < c → slice (j + 1) c (set ys j a) ≡ slice (suc j) c ys
store_back ys j c a h =
    ap (λ (n : ℕ). drop n (take c (set ys j a))) (add-one j) ∙ ap (λ (t : List ℤ). drop (suc j) t) (take-set-lt c ys j a h)
    ∙ drop-set-lt (suc j) (take c ys) j a (omega arith)

module _ {bs : List ℕ} {at : ℕ} {ss : List ℕ} {from c k : ℕ} {r : List ℤ} {j : ℕ} {ys : List ℤ} (d : Moving bs at ss from c k r j ys) where
  pub move_end : c ≤ j → ys ≡ add (take c r) (scale k (subtract (values c (drop at bs)) (values c (drop from ss)))) ++ drop c r
  unfolding add
  move_end h =
      let e : j ≡ c = omega (arith, d.within) in
      sym (take-append-drop c ys) ∙ (rw (e, slice_empty) at d.rest)

  module _ (few : c ≤ 64) (m : Movable r (values c (drop at bs)) (values c (drop from ss)) c k) (h : j < c)
      {x y : ℤ} (ex : x ≡ value (number (at + 2 * j) 2 bs)) (ey : y ≡ value (number (from + 2 * j) 2 ss)) where
    x_size : nat_abs x ≤ 2000
    x_size = rw (ex, ← value_of_values c j at bs h) (m.row_range.each j h)

    y_size : nat_abs y ≤ 2000
    y_size = rw (ey, ← value_of_values c j from ss h) (m.target_range.each j h)

    -- v - u, times k, and the entry moved by it, as the machine has them
    abbrev difference : ℤ
    difference = to_z w32 (of_z w32 x) -ℤ to_z w32 (of_z w32 y)

    abbrev change : ℤ
    change = to_z w32 k *ℤ to_z w32 (of_z w32 difference)

    abbrev entry : ℤ
    entry = to_z w32 (of_z w32 (get_or ys j (pos 0))) +ℤ to_z w32 (of_z w32 change)

    difference_is : difference ≡ x -ℤ y
    difference_is = rw (read w32 {z = x} 2000 x_size tt, read w32 {z = y} 2000 y_size tt)

    difference_size : nat_abs (x -ℤ y) ≤ 4000
    difference_size = omega (arith, abs_sub x y, x_size, y_size)

    pub difference_fits : SFits w32 difference
    difference_fits = rw difference_is (fits w32 4000 difference_size tt)

    change_is : change ≡ pos k *ℤ (x -ℤ y)
    change_is = rw (to_z_pos w32 {n = k} (omega (arith, m.few_shares)), to_z-of_z difference_fits, difference_is)

    change_size : nat_abs (pos k *ℤ (x -ℤ y)) ≤ k * 4000
    change_size = abs_mul_le (pos k) (x -ℤ y) k 4000 (le_refl k) difference_size

    pub change_fits : SFits w32 change
    change_fits = rw change_is (fits w32 259920000 (omega (arith, change_size, m.few_shares)) tt)

    old_size : nat_abs (get_or ys j (pos 0)) + 4000 * k ≤ entry_limit
    old_size = rw (d.later j (omega arith)) (m.room j h)

    entry_is : entry ≡ get_or ys j (pos 0) +ℤ pos k *ℤ (x -ℤ y)
    entry_is = rw (read w32 {z = get_or ys j (pos 0)} entry_limit (omega (arith, old_size)) tt, to_z-of_z change_fits, change_is)

    pub entry_fits : SFits w32 entry
    entry_fits = rw entry_is (fits w32 entry_limit (omega (arith, abs_add (get_or ys j (pos 0)) (pos k *ℤ (x -ℤ y)), change_size, old_size)) tt)

    pub move_more : Moving bs at ss from c k r (j + 1) (set ys j (to_z w32 (of_z w32 entry)))
    unfolding add scale subtract
    move_more =
        let e : c - j ≡ suc (c - (j + 1)) = omega arith in
        let p : at + 2 * (j + 1) ≡ at + 2 * j + 2 = omega arith in
        let q : from + 2 * (j + 1) ≡ from + 2 * j + 2 = omega arith in
        let z : to_z w32 (of_z w32 entry) ≡ get_or ys j (pos 0) +ℤ pos k *ℤ (x -ℤ y) = to_z-of_z entry_fits ∙ entry_is in
        let l : j < length ys = omega (arith, d.long) in
        let n : c ≤ length ys = omega (arith, d.long) in
        rw z (record {
          within = omega arith;
          long = length-set ys j _ ∙ d.long;
          later = λ i g. get_or-set_other ys j i _ (pos 0) (λ w. omega arith) ∙ d.later i (omega arith);
          rest =
              rw (store_front ys j _ l, store_back ys j c _ h, drop-set-lt c ys j _ h, append_assoc, p, q)
              (rw (e, values_suc (c - (j + 1)) (at + 2 * j) bs, values_suc (c - (j + 1)) (from + 2 * j) ss, slice-cons j c ys (pos 0) h n, ← ex, ← ey) at d.rest);
        })
