-- The range test of a value as the code computes it, and the scan that tests values one by one.
use mathlib.Core.Path.{◌≡◌, refl, sym, ◌∙◌}
use mathlib.Core.Bool.{Bool, true, false, ◌&&◌, cond}
use mathlib.Core.List.{List}
use Prim.Native.Nat.{ℕ, suc, ◌+◌, ◌*◌, ◌-◌, ◌%◌, ◌≤◌, ◌<◌}
use native.Mathlib.Omega.{arith}
use borrow.Author.Tests.{lt-ltb, le-ltb, le-leb, lt-leb, ltb-true, ltb-false, leb-true, leb-false}
use lib.Dec.{ltb, leb}
use lib.IntN.{pos, negsuc}
use lib.ListN.{drop}
use Rattle.files.specs.Bytes.{number, value, values, in_range, all_in_range}
use Rattle.files.proofs.Rows.{values_suc}

-- ---- one value
-- the two cases of `value`, by the test that parts them
range_by : (t r : Bool) (v : ℕ) → ltb v 32768 ≡ t → leb ((v + 2000) % 65536) 4000 ≡ r → v < 65536 → in_range (cond t (pos v) (negsuc (65535 - v))) ≡ r
unfolding in_range
range_by true true v e f k = le-leb v 2000 (omega (arith, ltb-true v 32768 e, leb-true ((v + 2000) % 65536) 4000 f))
range_by true false v e f k = lt-leb v 2000 (omega (arith, ltb-true v 32768 e, leb-false ((v + 2000) % 65536) 4000 f))
range_by false true v e f k = lt-ltb (65535 - v) 2000 (omega (arith, ltb-false v 32768 e, leb-true ((v + 2000) % 65536) 4000 f))
range_by false false v e f k = le-ltb (65535 - v) 2000 (omega (arith, ltb-false v 32768 e, leb-false ((v + 2000) % 65536) 4000 f))

pub in_range_shifted : (v : ℕ) → v < 65536 → leb ((v + 2000) % 65536) 4000 ≡ in_range (value v)
unfolding value
in_range_shifted v k = sym (range_by (ltb v 32768) (leb ((v + 2000) % 65536) 4000) v refl refl k)

and_false : (b : Bool) → b && false ≡ false
and_false true = refl
and_false false = refl

and_true : (b : Bool) → b && true ≡ b
and_true true = refl
and_true false = refl

-- ---- the scan
-- after i values the test so far and the rest decide
pub record Scanned (bs : List ℕ) (at count : ℕ) (good : Bool) (i : ℕ) : Type 0 where
  pub within : i ≤ count
  pub decides : all_in_range (values count (drop at bs)) ≡ good && all_in_range (values (count - i) (drop (at + 2 * i) bs))

module _ {bs : List ℕ} {at count : ℕ} where
  pub scanned_start : Scanned bs at count true 0
  scanned_start =
      let e : count - 0 ≡ count = omega arith in
      let p : at + 2 * 0 ≡ at = omega arith in
      record { within = omega arith; decides = rw (e, p) }

  module _ {good : Bool} {i : ℕ} (s : Scanned bs at count good i) where
    next : i < count →
        all_in_range (values count (drop at bs)) ≡ good && (in_range (value (number (at + 2 * i) 2 bs)) && all_in_range (values (count - (i + 1)) (drop (at + 2 * (i + 1)) bs)))
    unfolding all_in_range
    next h =
        let e : count - i ≡ suc (count - (i + 1)) = omega arith in
        let p : at + 2 * (i + 1) ≡ at + 2 * i + 2 = omega arith in
        s.decides ∙ rw (e, p, values_suc)

    module _ {v : ℕ} {g : Bool} (h : i < count) (ev : v ≡ number (at + 2 * i) 2 bs) (eg : g ≡ in_range (value v)) where
      pub scanned_in : g ≡ true → Scanned bs at count good (i + 1)
      scanned_in t =
          let e : in_range (value v) ≡ true = sym eg ∙ t in
          record { within = omega arith; decides = next h ∙ simp (← ev, e) }

      pub scanned_out : g ≡ false → Scanned bs at count false (i + 1)
      scanned_out t =
          let e : in_range (value v) ≡ false = sym eg ∙ t in
          record { within = omega arith; decides = next h ∙ (simp (← ev, e) (and_false good)) }

    pub scanned_end : count ≤ i → good ≡ all_in_range (values count (drop at bs))
    unfolding values all_in_range
    scanned_end h = let e : count - i ≡ 0 = omega arith in sym (s.decides ∙ rw e (and_true good))
