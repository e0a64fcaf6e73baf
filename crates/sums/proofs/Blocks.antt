-- An inner product by blocks of columns, in an i32, and that of numbers with zeros behind them. Assumes nothing.
use mathlib.Core.Path.{◌≡◌, refl, sym, ap, ◌∙◌}
use mathlib.Core.Bool.{Bool, true, false}
use mathlib.Core.List.{List, [], ◌∷◌}
use Prim.Native.Nat.{ℕ, zero, suc, ◌+◌, ◌*◌, ◌-◌, ◌≤◌, ◌<◌}
use native.Mathlib.Nat.{zero-add, suc-add}
use native.Mathlib.Omega.{arith}
use borrow.Author.Tests.{ltb-true, ltb-false}
use lib.Dec.{ltb}
use lib.IntN.{ℤ, pos, nat_abs, ◌+ℤ◌, ◌*ℤ◌, +ℤ_assoc, +ℤ_idl, +ℤ_idr, zero-*ℤ}
use lib.ListN.{length, get_or, drop, take, replicate, length-drop, length-replicate, get_or-replicate}
use lib.Seq.{take-nil, take_all, drop-drop, get_or-drop}
use mir.Syntax.{w32}
use mir.Val.{SFits, to_z, of_z}
use Rattle.integers.proofs.Bounds.{fits, read, abs_add, abs_mul_le}
use Rattle.files.specs.Bytes.{values, value, number}
use Rattle.files.proofs.Rows.{value_of_values}
use Rattle.frank_wolfe.specs.Vectors.{inner}
use Rattle.sums.specs.Operands.{Bounded, Multipliable, Padded, Span}

-- the first i columns and the next k
inner_cut : (i k : ℕ) (xs : List ℤ) (bs : List ℕ) →
    inner (take i xs) (values i bs) +ℤ inner (take k (drop i xs)) (values k (drop (2 * i) bs)) ≡ inner (take (i + k) xs) (values (i + k) bs)
unfolding inner values
inner_cut zero k xs bs = rw (zero-add, +ℤ_idl)
inner_cut (suc i) k [] bs = rw (take-nil k, take-nil (suc i + k))
inner_cut (suc i) k (x ∷ xs) bs =
    let e : 2 * suc i ≡ 2 + 2 * i = omega arith in
    rw (suc-add, +ℤ_assoc, e, ← drop-drop, inner_cut i k xs (drop 2 bs))

inner_most : (k : ℕ) (xs : List ℤ) (bs : List ℕ) → Multipliable k xs (values k bs) → nat_abs (inner (take k xs) (values k bs)) ≤ k * 8000000
unfolding inner values
inner_most zero xs bs m = omega arith
inner_most (suc k) [] bs m = omega arith
inner_most (suc k) (x ∷ xs) bs m =
    let rest : nat_abs (inner (take k xs) (values k (drop 2 bs))) ≤ k * 8000000 = inner_most k xs (drop 2 bs) (record { each = λ i h. m.each (suc i) (omega arith) }) in
    omega (arith, abs_add (x *ℤ value (number 0 2 bs)) (inner (take k xs) (values k (drop 2 bs))), m.each 0 (omega arith))

-- the inner product of the first i columns stands in the bits of an i32
pub record Blocked (xs : List ℤ) (bs : List ℕ) (at i bits : ℕ) : Type 0 where
  pub bits_are : bits ≡ of_z w32 (inner (take i xs) (values i (drop at bs)))
  pub size : nat_abs (inner (take i xs) (values i (drop at bs))) ≤ i * 8000000

pub block_end : {xs : List ℤ} {bs : List ℕ} {at n bits : ℕ} → Blocked xs bs at n bits → n ≤ 64 → to_z w32 bits ≡ inner (take n xs) (values n (drop at bs))
block_end d h = rw d.bits_are (read w32 512000000 (omega (arith, d.size)) tt)

module _ {xs : List ℤ} {bs : List ℕ} {at n : ℕ} (s : Span bs at n) (b : Bounded 4000 n xs) (m : Multipliable n xs (values n (drop at bs))) where
  -- the first k columns
  module _ (k : ℕ) (h : k ≤ n) where
    first_multipliable : Multipliable k xs (values k (drop at bs))
    first_multipliable = record { each = λ j l. rw (value_of_values k j at bs l, ← value_of_values n j at bs (omega arith)) (m.each j (omega arith)) }

    pub first_asks : Span bs at k × (Bounded 4000 k xs × Multipliable k xs (values k (drop at bs)))
    first_asks = (record { few_columns = omega (arith, s.few_columns); inside = omega (arith, s.inside) }, (record { long = omega (arith, b.long); each = λ j l. b.each j (omega arith) }, first_multipliable))

    pub block_first : {z : ℤ} → z ≡ inner (take k xs) (values k (drop at bs)) → Blocked xs bs at k (of_z w32 z)
    block_first e = record { bits_are = ap (of_z w32) e; size = inner_most k xs (drop at bs) first_multipliable }

  -- the next k columns
  module _ (i k : ℕ) (h : i + k ≤ n) where
    -- the entries from the i-th on, as a part of a slice has them
    abbrev left : List ℤ
    left = take (length xs - i) (drop i xs)

    left_is : left ≡ drop i xs
    left_is = take_all (length xs - i) (drop i xs) (rw length-drop (omega arith))

    next_multipliable : Multipliable k (drop i xs) (values k (drop (at + 2 * i) bs))
    next_multipliable =
        record {
          each =
              λ j l.
              let e : at + 2 * i + 2 * j ≡ at + 2 * (i + j) = omega arith in
              rw (get_or-drop, value_of_values k j (at + 2 * i) bs l, e, ← value_of_values n (i + j) at bs (omega arith)) (m.each (i + j) (omega arith));
        }

    pub next_asks : Span bs (at + 2 * i) k × (Bounded 4000 k left × Multipliable k left (values k (drop (at + 2 * i) bs)))
    next_asks =
        rw left_is (
          record { few_columns = omega (arith, s.few_columns); inside = omega (arith, s.inside) },
          (record { long = rw length-drop (omega (arith, b.long)); each = λ j l. rw get_or-drop (b.each (i + j) (omega arith)) }, next_multipliable),
        )

    module _ {bits : ℕ} (d : Blocked xs bs at i bits) {z : ℤ} (e : z ≡ inner (take k left) (values k (drop (at + 2 * i) bs))) where
      abbrev whole : ℤ
      whole = inner (take (i + k) xs) (values (i + k) (drop at bs))

      z_size : nat_abs z ≤ k * 8000000
      z_size = rw (e, left_is) (inner_most k (drop i xs) (drop (at + 2 * i) bs) next_multipliable)

      joined : inner (take i xs) (values i (drop at bs)) +ℤ z ≡ whole
      joined = rw (e, left_is, ← drop-drop (2 * i) at bs) (inner_cut i k xs (drop at bs))

      size : nat_abs whole ≤ (i + k) * 8000000
      size = rw (← joined) (omega (arith, abs_add (inner (take i xs) (values i (drop at bs))) z, d.size, z_size))

      sum_is : to_z w32 bits +ℤ to_z w32 (of_z w32 z) ≡ whole
      sum_is = rw (d.bits_are, read w32 {z = inner (take i xs) (values i (drop at bs))} 512000000 (omega (arith, d.size, s.few_columns)) tt, read w32 {z = z} 512000000 (omega (arith, z_size, s.few_columns)) tt) joined

      pub block_fits : SFits w32 (to_z w32 bits +ℤ to_z w32 (of_z w32 z))
      block_fits = rw sum_is (fits w32 512000000 (omega (arith, size, s.few_columns)) tt)

      pub block_more : Blocked xs bs at (i + k) (of_z w32 (to_z w32 bits +ℤ to_z w32 (of_z w32 z)))
      block_more = record { bits_are = ap (of_z w32) sum_is; size = size }

-- four blocks of 16 columns, added up from the first
module _ {xs : List ℤ} {bs : List ℕ} {at : ℕ} (s : Span bs at 64) (b : Bounded 4000 64 xs) (m : Multipliable 64 xs (values 64 (drop at bs)))
    {x y z w : ℤ} (ex : x ≡ inner (take 16 xs) (values 16 (drop at bs))) (ey : y ≡ inner (take 16 (take (length xs - 16) (drop 16 xs))) (values 16 (drop (at + 32) bs)))
    (ez : z ≡ inner (take 16 (take (length xs - 32) (drop 32 xs))) (values 16 (drop (at + 64) bs))) (ew : w ≡ inner (take 16 (take (length xs - 48) (drop 48 xs))) (values 16 (drop (at + 96) bs))) where
  one : Blocked xs bs at 16 (of_z w32 x)
  one = block_first s b m 16 (omega arith) ex

  abbrev x+y : ℤ
  x+y = to_z w32 (of_z w32 x) +ℤ to_z w32 (of_z w32 y)

  abbrev x+y+z : ℤ
  x+y+z = to_z w32 (of_z w32 x+y) +ℤ to_z w32 (of_z w32 z)

  abbrev sum : ℤ
  sum = to_z w32 (of_z w32 x+y+z) +ℤ to_z w32 (of_z w32 w)

  pub two_fit : SFits w32 x+y
  two_fit = block_fits s b m 16 16 (omega arith) one ey

  two : Blocked xs bs at 32 (of_z w32 x+y)
  two = block_more s b m 16 16 (omega arith) one ey

  pub three_fit : SFits w32 x+y+z
  three_fit = block_fits s b m 32 16 (omega arith) two ez

  three : Blocked xs bs at 48 (of_z w32 x+y+z)
  three = block_more s b m 32 16 (omega arith) two ez

  pub four_fit : SFits w32 sum
  four_fit = block_fits s b m 48 16 (omega arith) three ew

  pub four_are : to_z w32 (of_z w32 sum) ≡ inner (take 64 xs) (values 64 (drop at bs))
  four_are = block_end (block_more s b m 48 16 (omega arith) three ew) (omega arith)

-- ---- Zeros behind the columns

-- a number in range times one in range
pub multipliable : {n : ℕ} {xs ys : List ℤ} → Bounded 4000 n xs → Bounded 2000 n ys → Multipliable n xs ys
multipliable {n} {xs} {ys} b r = record { each = λ i h. abs_mul_le (get_or xs i (pos 0)) (get_or ys i (pos 0)) 4000 2000 (b.each i h) (r.each i h) }

zeros_inner : (n k : ℕ) (ys : List ℤ) → inner (take n (replicate k (pos 0))) ys ≡ pos 0
unfolding inner
zeros_inner zero k ys = refl
zeros_inner (suc n) zero ys = refl
zeros_inner (suc n) (suc k) [] = refl
zeros_inner (suc n) (suc k) (y ∷ ys) = rw (zero-*ℤ y, +ℤ_idl) (zeros_inner n k ys)

module _ {xs : List ℤ} {bs : List ℕ} {at n : ℕ} (s : Span bs at n) (p : Padded n xs) (r : Bounded 2000 n (values n (drop at bs))) where
  padded_long : length xs ≡ 64
  padded_long = omega (arith, p.entries.long, s.few_columns, rw (length-drop, length-replicate) at (ap length p.zeros))

  -- what holds of an entry in the columns, and of 0
  entry : (P : ℤ → Type 0) (i : ℕ) → i < 64 → (i < n → P (get_or xs i (pos 0))) → P (pos 0) → P (get_or xs i (pos 0))
  entry P i h f z = by (ltb i n) refl
    where
      by : (t : Bool) → ltb i n ≡ t → P (get_or xs i (pos 0))
      by true e = f (ltb-true i n e)
      by false e =
          let k : n + (i - n) ≡ i = omega (arith, ltb-false i n e) in
          let g : get_or xs i (pos 0) ≡ pos 0 = rw k at (sym (get_or-drop n xs (i - n) (pos 0)) ∙ ap (λ (l : List ℤ). get_or l (i - n) (pos 0)) p.zeros ∙ get_or-replicate (64 - n) (i - n) (pos 0) (pos 0) (omega (arith, ltb-false i n e))) in
          rw g z

  pub padded_asks : at + 128 ≤ length bs → Span bs at 64 × (Bounded 4000 64 xs × Multipliable 64 xs (values 64 (drop at bs)))
  padded_asks h = (
    record { few_columns = omega arith; inside = omega arith },
    (
      record { long = omega (arith, padded_long); each = λ i g. entry (λ x. nat_abs x ≤ 4000) i g (p.entries.each i) (omega arith) },
      record {
        each = λ i g.
            entry (λ x. nat_abs (x *ℤ get_or (values 64 (drop at bs)) i (pos 0)) ≤ 8000000) i g
            (λ l. rw (value_of_values 64 i at bs g, ← value_of_values n i at bs l) ((multipliable p.entries r).each i l))
            (rw (zero-*ℤ (get_or (values 64 (drop at bs)) i (pos 0))) (omega arith));
      },
    ),
  )

  pub padded_is : inner (take 64 xs) (values 64 (drop at bs)) ≡ inner (take n xs) (values n (drop at bs))
  padded_is =
      let e : n + (64 - n) ≡ 64 = omega (arith, s.few_columns) in
      sym (rw e at (inner_cut n (64 - n) xs (drop at bs))) ∙ rw (p.zeros, zeros_inner, +ℤ_idr)
