-- An inner product added up from the first column on, in an i64. Assumes nothing.
use mathlib.Core.Path.{◌≡◌, refl, sym, ◌∙◌}
use mathlib.Core.List.{List, [], ◌∷◌}
use Prim.Native.Nat.{ℕ, suc, ◌+◌, ◌*◌, ◌-◌, ◌^◌, ◌≤◌, ◌<◌}
use lib.Dec.{T, ltb}
use native.Mathlib.Nat.{zero-mul, one-mul, add-mul, le_trans, mul-le-mul_right}
use native.Mathlib.Omega.{arith}
use native.Mathlib.Numerals.{add-one}
use lib.IntN.{ℤ, pos, nat_abs, ◌+ℤ◌, ◌*ℤ◌, +ℤ_assoc, +ℤ_idl, +ℤ_idr}
use lib.ListN.{length, get_or, drop, take}
use lib.Seq.{slice, slice-cons}
use mir.Syntax.{Width, w16, w32, w64}
use mir.Val.{SFits, hbits, to_z, of_z}
use mir.Facts.{to_z-of_z, sfits_widen}
use Rattle.integers.proofs.Bounds.{fits, read, abs_add, abs_mul_le}
use Rattle.files.specs.Bytes.{values, value, number}
use Rattle.files.proofs.Values.{value_bound, value_fits}
use Rattle.files.proofs.Rows.{values_suc, value_of_values}
use Rattle.files.specs.Limits.{entry_limit}
use Rattle.frank_wolfe.specs.Vectors.{inner}
use Rattle.sums.specs.Operands.{Bounded, Multipliable, Span}

inner_nil : (xs : List ℤ) → inner xs [] ≡ pos 0
unfolding inner
inner_nil [] = refl
inner_nil (x ∷ xs) = refl

-- part is the sum over the first i columns, as an accumulator of width w has it, each product at most m; the columns left add up to the rest
pub record Summed (w : Width) (m : ℕ) (xs : List ℤ) (bs : List ℕ) (at n i : ℕ) (part : ℤ) : Type 0 where
  pub within : i ≤ n
  pub size : nat_abs part ≤ i * m
  pub rest : part +ℤ inner (slice i n xs) (values (n - i) (drop (at + 2 * i) bs)) ≡ inner (take n xs) (values n (drop at bs))

pub sum_start : {w : Width} {m : ℕ} {xs : List ℤ} {bs : List ℕ} {at n : ℕ} → Summed w m xs bs at n 0 (pos 0)
sum_start {m = m} {xs = xs} {bs = bs} {at = at} {n = n} =
    let e : n - 0 ≡ n = omega arith in
    let p : at + 2 * 0 ≡ at = omega arith in
    record { within = omega arith; size = omega (arith, zero-mul m); rest = rw (e, p, +ℤ_idl) }

-- an i32 cast to an i64: it fits, and is read back as it was
module _ (z : ℤ) (b : ℕ) (h : nat_abs z ≤ b) (t : T (ltb b (2 ^ 31))) where
  pub cast_fits : SFits w64 (to_z w32 (of_z w32 z))
  cast_fits = rw (read w32 b h t) (sfits_widen tt (fits w32 b h t))

  pub cast_read : to_z w64 (of_z w64 (to_z w32 (of_z w32 z))) ≡ z
  cast_read = to_z-of_z cast_fits ∙ read w32 b h t

pub value_cast_fits : (u : ℕ) {v : ℤ} → v ≡ value u → SFits w64 (to_z w32 (of_z w32 v))
value_cast_fits u {v} e = cast_fits v 32768 (rw e (value_bound u)) tt

pub value_cast_read : (u : ℕ) {v : ℤ} → v ≡ value u → to_z w64 (of_z w64 (to_z w32 (of_z w32 v))) ≡ v
value_cast_read u {v} e = cast_read v 32768 (rw e (value_bound u)) tt

-- a 16-bit entry times a value in range, in 32 bits
module _ {xs : List ℤ} {n i : ℕ} (b : Bounded 4000 n xs) (h : i < n) where
  narrow_read : to_z w16 (of_z w16 (get_or xs i (pos 0))) ≡ get_or xs i (pos 0)
  narrow_read = read w16 {z = get_or xs i (pos 0)} 4000 (b.each i h) tt

  pub narrow_cast_fits : SFits w32 (to_z w16 (of_z w16 (get_or xs i (pos 0))))
  narrow_cast_fits = rw narrow_read (fits w32 4000 (b.each i h) tt)

  pub narrow_cast_read : to_z w32 (of_z w32 (to_z w16 (of_z w16 (get_or xs i (pos 0))))) ≡ get_or xs i (pos 0)
  narrow_cast_read = to_z-of_z narrow_cast_fits ∙ narrow_read

  pub narrow_product : (bs : List ℕ) (at : ℕ) → Multipliable n xs (values n (drop at bs)) → {v : ℤ} → v ≡ value (number (at + 2 * i) 2 bs) →
      {x y : ℤ} → x ≡ get_or xs i (pos 0) → y ≡ v → nat_abs (x *ℤ y) ≤ 8000000
  narrow_product bs at m ev ex ey = rw (ex, ey, ev, ← value_of_values n i at bs h) (m.each i h)

pub value_read : (u : ℕ) {v : ℤ} → v ≡ value u → to_z w32 (of_z w32 v) ≡ v
value_read u e = rw e (to_z-of_z (value_fits u))

module _ {xs : List ℤ} {n i : ℕ} (b : Bounded entry_limit n xs) (h : i < n) where
  pub entry_cast_fits : SFits w64 (to_z w32 (of_z w32 (get_or xs i (pos 0))))
  entry_cast_fits = cast_fits (get_or xs i (pos 0)) entry_limit (b.each i h) tt

  pub entry_cast_read : to_z w64 (of_z w64 (to_z w32 (of_z w32 (get_or xs i (pos 0))))) ≡ get_or xs i (pos 0)
  entry_cast_read = cast_read (get_or xs i (pos 0)) entry_limit (b.each i h) tt

  -- an entry times any 16-bit value
  pub wide_product : (u : ℕ) {v : ℤ} → v ≡ value u → {x y : ℤ} → x ≡ get_or xs i (pos 0) → y ≡ v → nat_abs (x *ℤ y) ≤ 8519680000000
  wide_product u ev {x} {y} ex ey = abs_mul_le x y entry_limit 32768 (rw ex (b.each i h)) (rw (ey, ev) (value_bound u))

-- 64 products of at most m fit the accumulator
module _ {w : Width} {m : ℕ} (t : T (ltb (64 * m) (2 ^ hbits w))) {xs : List ℤ} {bs : List ℕ} {at n i : ℕ} {part : ℤ} (d : Summed w m xs bs at n i part) (s : Span bs at n) where
  -- a bound by i products, for i up to 64
  sized : (j : ℕ) {q : ℕ} → j ≤ 64 → q ≤ j * m → q ≤ 64 * m
  sized j h k = le_trans k (mul-le-mul_right m h)

  pub sum_end : n ≤ i → part ≡ inner (take n xs) (values n (drop at bs))
  unfolding values
  sum_end h =
      let e : i ≡ n = omega (arith, d.within) in
      let f : n - n ≡ 0 = omega arith in
      sym (+ℤ_idr part) ∙ (rw (e, f, inner_nil) at d.rest)

  -- x and y are what the machine holds for the entry of r and for the value
  module _ (l : n ≤ length xs) (h : i < n) {v : ℤ} (ev : v ≡ value (number (at + 2 * i) 2 bs)) {x y : ℤ} (ex : x ≡ get_or xs i (pos 0)) (ey : y ≡ v) (size : nat_abs (x *ℤ y) ≤ m) where
    pub product_fits : SFits w (x *ℤ y)
    product_fits = fits w (64 * m) (sized 1 (omega arith) (rw one-mul size)) t

    sum_read : part +ℤ to_z w (of_z w (x *ℤ y)) ≡ part +ℤ x *ℤ y
    sum_read = rw (to_z-of_z product_fits)

    sum_size : nat_abs (part +ℤ x *ℤ y) ≤ (i + 1) * m
    sum_size = omega (arith, abs_add part (x *ℤ y), size, d.size, add-mul i 1 m, one-mul m)

    pub sum_fits : SFits w (part +ℤ to_z w (of_z w (x *ℤ y)))
    sum_fits = rw sum_read (fits w (64 * m) (sized (i + 1) (omega (arith, s.few_columns)) sum_size) t)

    pub sum_more : Summed w m xs bs at n (i + 1) (to_z w (of_z w (part +ℤ to_z w (of_z w (x *ℤ y)))))
    unfolding inner
    sum_more =
        let e : n - i ≡ suc (n - (i + 1)) = omega arith in
        let p : at + 2 * (i + 1) ≡ at + 2 * i + 2 = omega arith in
        let q : value (number (at + 2 * i) 2 bs) ≡ y = sym ev ∙ sym ey in
        let r : slice (i + 1) n xs ≡ slice (suc i) n xs = rw add-one in
        let z : to_z w (of_z w (part +ℤ to_z w (of_z w (x *ℤ y)))) ≡ part +ℤ x *ℤ y = to_z-of_z sum_fits ∙ sum_read in
        rw z (record {
          within = omega arith;
          size = sum_size;
          rest = rw (+ℤ_assoc, r, p) (rw (e, values_suc, slice-cons i n xs (pos 0) h l, q, ← ex) at d.rest);
        })
