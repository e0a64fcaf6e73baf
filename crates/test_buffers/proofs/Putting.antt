-- Bytes put one after the other, where what falls past the end is left out. Assumes nothing.
use mathlib.Core.Path.{◌≡◌, refl, sym, ap, ◌∙◌}
use mathlib.Core.List.{List, [], ◌∷◌, ◌++◌}
use mathlib.Core.Logic.{⊎_elim}
use Prim.Native.Nat.{ℕ, suc, ◌+◌, ◌-◌, ◌/◌, ◌%◌, ◌≤◌, ◌<◌}
use native.Mathlib.Nat.{eq-zero-or-pos}
use native.Mathlib.Numerals.{add-one}
use native.Mathlib.Omega.{arith}
use lib.ListN.{length, get_or, drop, set, length-set, length-append, drop_of_length-le}
use lib.Seq.{sets, set_out, length-sets, drop-cons}
use Rattle.files.specs.Bytes.{number_bytes}
use Rattle.test_buffers.specs.Buffers.{after, Puts}

-- past the end nothing is put
sets_out : (l : List ℕ) (i : ℕ) (vs : List ℕ) → length l ≤ i → sets l i vs ≡ l
sets_out l i [] h = refl
sets_out l i (a ∷ vs) h = rw (set_out l i a h) (sets_out l (suc i) vs (omega arith))

-- xs, and ys at the offset after them
sets_then : (l : List ℕ) (at : ℕ) (xs ys : List ℕ) → sets (sets l at xs) (after (length l) at (length xs)) ys ≡ sets l at (xs ++ ys)
unfolding after
sets_then l at [] ys =
    let e : after (length l) at 0 ≡ at = omega arith in
    rw e
sets_then l at (x ∷ xs) ys = ⊎_elim outside (inside (sets_then (set l at x) (suc at) xs ys)) (eq-zero-or-pos (length l - at)) where
  outside : length l - at ≡ 0 → sets (sets l at (x ∷ xs)) (after (length l) at (suc (length xs))) ys ≡ sets l at (x ∷ (xs ++ ys))
  outside h =
      let p : length l ≤ at = omega arith in
      let e : after (length l) at (suc (length xs)) ≡ at = omega arith in
      rw (e, sets_out l at (x ∷ xs) p) (sets_out l at ys p ∙ sym (sets_out l at (x ∷ (xs ++ ys)) p))

  inside : sets (sets (set l at x) (suc at) xs) (after (length (set l at x)) (suc at) (length xs)) ys ≡ sets (set l at x) (suc at) (xs ++ ys) → 0 < length l - at →
      sets (sets l at (x ∷ xs)) (after (length l) at (suc (length xs))) ys ≡ sets l at (x ∷ (xs ++ ys))
  inside q h =
      let e : after (length l) at (suc (length xs)) ≡ after (length (set l at x)) (suc at) (length xs) = omega (arith, length-set l at x) in
      rw e q

after_after : (size at m n : ℕ) → after size (after size at m) n ≡ after size at (m + n)
unfolding after
after_after size at m n = omega arith

-- the same of buffers and offsets that are known by equations
pub puts_then : {old new last xs ys : List ℕ} {at next end : ℕ} → Puts old at xs new next → Puts new next ys last end → Puts old at (xs ++ ys) last end
puts_then {old} {new} {last} {xs} {ys} {at} {next} {end} p q =
    let l : length new ≡ length old = ap length p.bytes_are ∙ length-sets old at xs in
    record {
      bytes_are = q.bytes_are ∙ rw (p.bytes_are, p.reached) (sets_then old at xs ys);
      reached = q.reached ∙ rw (l, p.reached, length-append) (after_after (length old) at (length xs) (length ys));
    }

-- ---- A loop that puts `bytes` from `at` on: `rest` are to be put from `next` on

pub record Putting (old : List ℕ) (at : ℕ) (bytes : List ℕ) (new : List ℕ) (next : ℕ) (rest : List ℕ) : Type 0 where
  pub long : length new ≡ length old
  pub bytes_are : sets new next rest ≡ sets old at bytes
  pub reached : after (length old) next (length rest) ≡ after (length old) at (length bytes)

pub putting_start : {old bytes : List ℕ} {at : ℕ} → Putting old at bytes old at bytes
putting_start = record { long = refl; bytes_are = refl; reached = refl }

pub putting_end : {old bytes new : List ℕ} {at next : ℕ} → Putting old at bytes new next [] → Puts old at bytes new next
unfolding after
putting_end {old} {bytes} {new} {at} {next} p = record { bytes_are = p.bytes_are; reached = omega (arith, p.reached) }

module _ {old bytes new new' : List ℕ} {at next next' : ℕ} where
  pub putting_more : {xs rest : List ℕ} → Putting old at bytes new next (xs ++ rest) → Puts new next xs new' next' → Putting old at bytes new' next' rest
  putting_more {xs} {rest} p q =
      record {
        long = ap length q.bytes_are ∙ length-sets new next xs ∙ p.long;
        bytes_are = rw (q.bytes_are, q.reached) (sets_then new next xs rest ∙ p.bytes_are);
        reached = rw (q.reached, p.long) (after_after (length old) next (length xs) (length rest) ∙ rw length-append at p.reached);
      }

  -- a byte of a number
  pub number_more : (n i r : ℕ) → Putting old at bytes new next (number_bytes (n - i) r) → i < n → Puts new next (r % 256 ∷ []) new' next' →
      Putting old at bytes new' next' (number_bytes (n - (i + 1)) (r / 256))
  unfolding number_bytes
  number_more n i r p h q =
      let s : n - i ≡ suc (n - (i + 1)) = omega arith in
      putting_more (rw s at p) q

  -- a byte of a slice
  pub slice_more : (l : List ℕ) (i : ℕ) → Putting old at bytes new next (drop i l) → i < length l → Puts new next (get_or l i 0 ∷ []) new' next' → Putting old at bytes new' next' (drop (i + 1) l)
  slice_more l i p h q = putting_more (rw (drop-cons l i 0 h, ← add-one) at p) q

module _ {old bytes new : List ℕ} {at next : ℕ} where
  pub number_end : (n i r : ℕ) → Putting old at bytes new next (number_bytes (n - i) r) → n ≤ i → Puts old at bytes new next
  unfolding number_bytes
  number_end n i r p h =
      let z : n - i ≡ 0 = omega arith in
      putting_end (rw z at p)

  pub slice_end : (l : List ℕ) (i : ℕ) → Putting old at bytes new next (drop i l) → length l ≤ i → Puts old at bytes new next
  slice_end l i p h = putting_end (rw (drop_of_length-le l {i = i} h) at p)
