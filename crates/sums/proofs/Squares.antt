-- A sum of squares, added up from the first number on. Assumes nothing.
use mathlib.Core.Path.{◌≡◌, ap, ◌∙◌}
use mathlib.Core.List.{List}
use Prim.Native.Nat.{ℕ, suc, ◌+◌, ◌*◌, ◌≤◌, ◌<◌}
use native.Mathlib.Nat.{mul-le-mul}
use native.Mathlib.Omega.{arith}
use native.Mathlib.Numerals.{add-one}
use lib.Dec.{T}
use lib.IntN.{ℤ, pos, negsuc, nat_abs, ◌*ℤ◌}
use lib.Signed.{non_neg}
use lib.ListN.{get_or, take}
use lib.Seq.{slice, slice-cons, slice_empty}
use mir.Syntax.{w32, w64}
use mir.Val.{SFits, Fits, to_z, of_z}
use mir.Facts.{to_z-of_z}
use Rattle.integers.proofs.Bounds.{fits, read, abs_mul, abs_mul_le}
use Rattle.frank_wolfe.specs.Vectors.{squared_norm}
use Rattle.sums.specs.Operands.{Bounded}
use Rattle.sums.proofs.Sums.{cast_fits, cast_read}
use Rattle.files.specs.Limits.{entry_limit}

square_nonneg : (x : ℤ) → T (non_neg (x *ℤ x))
square_nonneg (pos n) = tt
square_nonneg (negsuc n) = tt

-- one number, cast to i64, squared, and cast to u64
module _ (x : ℤ) (h : nat_abs x ≤ entry_limit) where
  abbrev held : ℤ
  held = to_z w64 (of_z w64 (to_z w32 (of_z w32 x)))

  pub held_fits : SFits w64 (to_z w32 (of_z w32 x))
  held_fits = cast_fits x entry_limit h tt

  held_read : held ≡ x
  held_read = cast_read x entry_limit h tt

  square_size : nat_abs (x *ℤ x) ≤ 67600000000000000
  square_size = abs_mul_le x x entry_limit entry_limit h h

  pub square_fits : SFits w64 (held *ℤ held)
  square_fits = rw held_read (fits w64 67600000000000000 square_size tt)

  square_read : to_z w64 (of_z w64 (held *ℤ held)) ≡ x *ℤ x
  square_read = to_z-of_z square_fits ∙ rw held_read

  pub square_cast : T (non_neg (to_z w64 (of_z w64 (held *ℤ held)))) × Fits w64 (nat_abs (to_z w64 (of_z w64 (held *ℤ held))))
  square_cast = rw square_read (square_nonneg x, record { fits = omega (arith, square_size) })

  pub square_is : nat_abs (to_z w64 (of_z w64 (held *ℤ held))) ≡ nat_abs x * nat_abs x
  square_is = ap nat_abs square_read ∙ abs_mul x x

-- the squares of the first i numbers are in the sum
pub record Squared (xs : List ℤ) (n i sum : ℕ) : Type 0 where
  pub within : i ≤ n
  pub size : sum ≤ i * 67600000000000000
  pub rest : sum + squared_norm (slice i n xs) ≡ squared_norm (take n xs)

pub squared_start : {xs : List ℤ} {n : ℕ} → Squared xs n 0 0
squared_start {xs} = record { within = omega arith; size = omega arith; rest = omega arith }

module _ {xs : List ℤ} {n i sum : ℕ} (d : Squared xs n i sum) where
  pub squared_end : n ≤ i → sum ≡ squared_norm (take n xs)
  unfolding squared_norm
  squared_end h =
      let e : i ≡ n = omega (arith, d.within) in
      let f : sum + 0 ≡ squared_norm (take n xs) = rw (e, slice_empty) at d.rest in
      omega arith

  module _ (few : n ≤ 64) (b : Bounded entry_limit n xs) (h : i < n) {q : ℕ} (eq : q ≡ nat_abs (to_z w32 (of_z w32 (get_or xs i (pos 0)))) * nat_abs (to_z w32 (of_z w32 (get_or xs i (pos 0))))) where
    plain : q ≡ nat_abs (get_or xs i (pos 0)) * nat_abs (get_or xs i (pos 0))
    plain = eq ∙ rw (read w32 {z = get_or xs i (pos 0)} entry_limit (b.each i h) tt)

    small : q ≤ 67600000000000000
    small = rw plain (mul-le-mul (b.each i h) (b.each i h))

    pub squared_fits : Fits w64 (sum + q)
    squared_fits = record { fits = omega (arith, small, d.size) }

    pub squared_more : Squared xs n (i + 1) (sum + q)
    unfolding squared_norm
    squared_more =
        let t : slice (i + 1) n xs ≡ slice (suc i) n xs = rw add-one in
        let e : sum + (q + squared_norm (slice (suc i) n xs)) ≡ squared_norm (take n xs) = rw (slice-cons i n xs (pos 0) h b.long, ← plain) at d.rest in
        record { within = omega arith; size = omega (arith, small, d.size); rest = rw t (omega arith) }

pub entry_size : {xs : List ℤ} {n : ℕ} → Bounded entry_limit n xs → (i : ℕ) → i < n → nat_abs (to_z w32 (of_z w32 (get_or xs i (pos 0)))) ≤ entry_limit
entry_size {xs} b i h = rw (read w32 {z = get_or xs i (pos 0)} entry_limit (b.each i h) tt) (b.each i h)
