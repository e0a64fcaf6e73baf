-- Pairs tested and read one after the other, and the total of shares. Assumes nothing.
use mathlib.Core.Path.{◌≡◌, refl, sym, ap, ◌∙◌}
use mathlib.Core.Bool.{Bool, true, false, ◌&&◌, not}
use mathlib.Core.List.{List, [], ◌∷◌}
use Prim.Native.Nat.{ℕ, zero, suc, ◌+◌, ◌*◌, ◌-◌, ◌≤◌, ◌<◌}
use native.Mathlib.Omega.{arith}
use native.Mathlib.Numerals.{add-one}
use borrow.Author.Tests.{ltb-true, le-leb, lt-leb, lt-ltb, le-ltb, not-true, not-false}
use lib.Dec.{leb, ltb}
use lib.ListN.{length, get_or, take, drop, set, replicate, length-set, drop_of_length-le}
use lib.Seq.{drop-drop, drop-cons, get_or-take, length-take-le}
use Rattle.frank_wolfe.specs.Vectors.{sum}
use Rattle.files.specs.Bytes.{number}
use Rattle.files.proofs.Numbers.{number_2}
use Rattle.files.proofs.Rows.{drop_take}
use Rattle.files.proofs.Refusal.{and_true}
use Rattle.card_format.specs.Format.{shares_into}
use Rattle.card_format.specs.Checks.{pairs_in_order}
use Rattle.card_format.proofs.Pairs.{into_none, into_more}

-- ---- Pairs in order, and their shares

pub pair_low : (next n boat share : ℕ) → boat < next → false ≡ leb next boat && (ltb boat n && ltb 0 share)
pair_low next n boat share h = simp (lt-leb _ _ h)

pub pair_high : (next n boat share : ℕ) → next ≤ boat → n ≤ boat → false ≡ leb next boat && (ltb boat n && ltb 0 share)
pair_high next n boat share h k = simp (le-leb _ _ h, le-ltb _ _ k)

pub pair_last : (next n boat share : ℕ) → next ≤ boat → boat < n → ltb 0 share ≡ leb next boat && (ltb boat n && ltb 0 share)
pair_last next n boat share h k = simp (le-leb _ _ h, lt-ltb _ _ k)

number_drop : (p a n : ℕ) (w : List ℕ) → number a n (drop p w) ≡ number (p + a) n w
unfolding number
number_drop p a n w = rw drop-drop

pub order_more : (k next n : ℕ) (bs : List ℕ) →
    pairs_in_order (suc k) next n bs ≡ (leb next (number 0 2 bs) && (ltb (number 0 2 bs) n && ltb 0 (number 2 2 bs))) && pairs_in_order k (suc (number 0 2 bs)) n (drop 4 bs)
unfolding pairs_in_order
order_more k next n bs = refl

order_none : (next n : ℕ) (bs : List ℕ) → pairs_in_order 0 next n bs ≡ true
unfolding pairs_in_order
order_none next n bs = refl

-- the first i pairs from `at` on are in order, and the next boat may be `next`
pub record Ordering (w : List ℕ) (at count n i next : ℕ) : Type 0 where
  pub within : i ≤ count
  pub later : pairs_in_order (count - i) next n (drop (at + 4 * i) w) ≡ pairs_in_order count 0 n (drop at w)

pub ordering_start : {w : List ℕ} {at count n : ℕ} → Ordering w at count n 0 0
ordering_start {w} {at} {count} {n} =
    let e : count - 0 ≡ count = omega arith in
    let p : at + 4 * 0 ≡ at = omega arith in
    record { within = omega arith; later = rw (e, p) }

module _ {w : List ℕ} {at count n i next : ℕ} (d : Ordering w at count n i next) where
  pub ordering_end : count ≤ i → true ≡ pairs_in_order count 0 n (drop at w)
  ordering_end h = let e : count - i ≡ 0 = omega arith in sym (order_none next n (drop (at + 4 * i) w)) ∙ (rw e at d.later)

  module _ (h : i < count) {boat share : ℕ} (eb : boat ≡ number (at + 4 * i) 2 w) (es : share ≡ number (at + 4 * i + 2) 2 w)
      {g : Bool} (eg : g ≡ leb next boat && (ltb boat n && ltb 0 share)) where
    step : pairs_in_order count 0 n (drop at w) ≡ g && pairs_in_order (count - (i + 1)) (boat + 1) n (drop (at + 4 * (i + 1)) w)
    step =
        let k = count - (i + 1) in
        let p = at + 4 * i in
        let e : count - i ≡ suc k = omega arith in
        let q : at + 4 * (i + 1) ≡ p + 4 = omega arith in
        let z : p + 0 ≡ p = omega arith in
        let b : number 0 2 (drop p w) ≡ boat = number_drop p 0 2 w ∙ rw (z, eb) in
        let s : number 2 2 (drop p w) ≡ share = number_drop p 2 2 w ∙ sym es in
        sym d.later ∙ rw (e, order_more k next n (drop p w), b, s, drop-drop 4 p w, q, add-one boat, eg)

    pub ordering_out : not g ≡ true → false ≡ pairs_in_order count 0 n (drop at w)
    ordering_out t = sym (step ∙ rw (not-true g t))

    pub ordering_more : not g ≡ false → Ordering w at count n (i + 1) (boat + 1)
    ordering_more t = record { within = omega arith; later = sym (step ∙ rw (not-false g t)) }

-- a boat of pairs in order is below their bound
pub boat_below : (k next n i : ℕ) (bs : List ℕ) → pairs_in_order k next n bs ≡ true → i < k → number (4 * i) 2 bs < n
boat_below zero next n i bs h l = absurd (omega arith)
boat_below (suc k) next n zero bs h l =
    let p = and_true (leb next (number 0 2 bs) && (ltb (number 0 2 bs) n && ltb 0 (number 2 2 bs))) _ (rw order_more at h) in
    let q = and_true (leb next (number 0 2 bs)) _ p.0 in
    ltb-true (number 0 2 bs) n (and_true (ltb (number 0 2 bs) n) _ q.1).0
boat_below (suc k) next n (suc i) bs h l =
    let p = and_true (leb next (number 0 2 bs) && (ltb (number 0 2 bs) n && ltb 0 (number 2 2 bs))) _ (rw order_more at h) in
    let e : 4 * suc i ≡ 4 + 4 * i = omega arith in
    rw (e, ← number_drop 4 (4 * i) 2 bs) (boat_below k (suc (number 0 2 bs)) n i (drop 4 bs) p.1 (omega arith))

-- the shares of the first i pairs are in `now`
pub record Taking (w : List ℕ) (at count i : ℕ) (now : List ℕ) : Type 0 where
  pub within : i ≤ count
  pub long : length now ≡ 256
  pub later : shares_into (count - i) (drop (at + 4 * i) w) now ≡ shares_into count (drop at w) (replicate 256 0)

pub taking_start : {w : List ℕ} {at count : ℕ} → Taking w at count 0 (replicate 256 0)
taking_start {w} {at} {count} =
    let e : count - 0 ≡ count = omega arith in
    let p : at + 4 * 0 ≡ at = omega arith in
    record { within = omega arith; long = refl; later = rw (e, p) }

module _ {w : List ℕ} {at count i : ℕ} {now : List ℕ} (d : Taking w at count i now) where
  pub taking_end : count ≤ i → now ≡ shares_into count (drop at w) (replicate 256 0)
  taking_end h = let e : count - i ≡ 0 = omega arith in sym (into_none (drop (at + 4 * i) w) now) ∙ (rw e at d.later)

  module _ (h : i < count) {boat : ℕ} (eb : boat ≡ number (at + 4 * i) 2 w) where
    pub taking_slot : pairs_in_order count 0 256 (drop at w) ≡ true → boat < 256
    taking_slot o = rw (eb, ← number_drop at (4 * i) 2 w) (boat_below count 0 256 i (drop at w) o h)

    pub taking_more : (share : ℕ) → share ≡ number (at + 4 * i + 2) 2 w → Taking w at count (i + 1) (set now boat share)
    taking_more share es =
        let k = count - (i + 1) in
        let p = at + 4 * i in
        let e : count - i ≡ suc k = omega arith in
        let q : at + 4 * (i + 1) ≡ p + 4 = omega arith in
        let z : p + 0 ≡ p = omega arith in
        let b : number 0 2 (drop p w) ≡ boat = number_drop p 0 2 w ∙ rw (z, eb) in
        let s : number 2 2 (drop p w) ≡ share = number_drop p 2 2 w ∙ sym es in
        record {
          within = omega arith;
          long = length-set now boat share ∙ d.long;
          later = rw (q, ← drop-drop 4 p w, ← b, ← s) (sym (into_more k (drop p w) now) ∙ (rw e at d.later));
        }

-- ---- So many pairs are read from their own bytes alone

number_take : (a m : ℕ) (bs : List ℕ) → a + 2 ≤ m → number a 2 (take m bs) ≡ number a 2 bs
number_take a m bs h = rw (number_2 a (take m bs), number_2 a bs, get_or-take m bs a 0 (omega arith), get_or-take m bs (a + 1) 0 (omega arith))

pub order_take : (k next n : ℕ) (bs : List ℕ) → pairs_in_order k next n (take (4 * k) bs) ≡ pairs_in_order k next n bs
order_take zero next n bs = order_none next n (take (4 * 0) bs) ∙ sym (order_none next n bs)
order_take (suc k) next n bs =
    let e : 4 * suc k ≡ 4 + 4 * k = omega arith in
    rw (
      order_more k next n (take (4 * suc k) bs),
      order_more k next n bs,
      number_take 0 (4 * suc k) bs (omega arith),
      number_take 2 (4 * suc k) bs (omega arith),
      e,
      drop_take 4 (4 * k) bs,
      order_take k (suc (number 0 2 bs)) n (drop 4 bs),
    )

pub into_take : (k : ℕ) (bs qs : List ℕ) → shares_into k (take (4 * k) bs) qs ≡ shares_into k bs qs
into_take zero bs qs = into_none (take (4 * 0) bs) qs ∙ sym (into_none bs qs)
into_take (suc k) bs qs =
    let e : 4 * suc k ≡ 4 + 4 * k = omega arith in
    rw (
      into_more k (take (4 * suc k) bs) qs,
      into_more k bs qs,
      number_take 0 (4 * suc k) bs (omega arith),
      number_take 2 (4 * suc k) bs (omega arith),
      e,
      drop_take 4 (4 * k) bs,
      into_take k (drop 4 bs) (set qs (number 0 2 bs) (number 2 2 bs)),
    )

-- ---- The total of shares

pub sum_more : (q : ℕ) (qs : List ℕ) → sum (q ∷ qs) ≡ q + sum qs
unfolding sum
sum_more q qs = refl

sum_none : sum [] ≡ 0
unfolding sum
sum_none = refl

-- x is the total of the first i shares
pub record Totalling (n : ℕ) (shares : List ℕ) (i x : ℕ) : Type 0 where
  pub within : i ≤ n
  pub most : x ≤ 65535 * i
  pub later : x + sum (drop i (take n shares)) ≡ sum (take n shares)

pub totalling_start : {n : ℕ} {shares : List ℕ} → Totalling n shares 0 0
totalling_start = record { within = omega arith; most = omega arith; later = omega arith }

pub totalling_more : {n : ℕ} {shares : List ℕ} {i x : ℕ} → Totalling n shares i x → n ≤ length shares → i < n → (y : ℕ) → y ≡ get_or shares i 0 → y < 65536 → Totalling n shares (i + 1) (x + y)
totalling_more {n} {shares} {i} {x} d l h y ey f =
    let q : sum (drop i (take n shares)) ≡ get_or shares i 0 + sum (drop (i + 1) (take n shares)) =
    ap sum (drop-cons (take n shares) i 0 (omega (arith, length-take-le n shares l))) ∙ rw (get_or-take n shares i 0 h, sum_more (get_or shares i 0) (drop (suc i) (take n shares)), add-one) in
    record { within = omega arith; most = omega (arith, d.most); later = omega (arith, d.later, q) }

pub totalling_end : {n : ℕ} {shares : List ℕ} {i x : ℕ} → Totalling n shares i x → n ≤ length shares → n ≤ i → x ≡ sum (take n shares)
totalling_end {n} {shares} {i} {x} d l h =
    let e : drop i (take n shares) ≡ [] = drop_of_length-le (take n shares) {i = i} (omega (arith, length-take-le n shares l)) in
    omega (arith, d.later, ap sum e, sum_none)
