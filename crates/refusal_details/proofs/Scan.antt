-- The scan for the first value out of range.
use mathlib.Core.Path.{◌≡◌, refl, sym, ap, ◌∙◌}
use mathlib.Core.Bool.{Bool, true, false, cond}
use mathlib.Core.List.{List, [], ◌∷◌}
use Prim.Native.Nat.{ℕ, suc, ◌+◌, ◌*◌, ◌-◌, ◌%◌, ◌≤◌, ◌<◌}
use native.Mathlib.Omega.{arith}
use borrow.Author.Tests.{le-leb, lt-leb}
use lib.IntN.{ℤ, pos}
use lib.ListN.{length, drop, get_or}
use Rattle.files.specs.Limits.{file_limit}
use Rattle.files.specs.Bytes.{number, value, values, in_range, all_in_range}
use Rattle.files.proofs.Rows.{length_values, values_suc, value_of_values}
use Rattle.file_parts.proofs.Range.{in_range_shifted}
use Rattle.refusal_details.specs.Details.{first_out}

-- after i values in range the rest decides
pub record Scanned (bs : List ℕ) (at count i : ℕ) : Type 0 where
  pub within : i ≤ count
  pub decides : first_out (values count (drop at bs)) ≡ i + first_out (values (count - i) (drop (at + 2 * i) bs))

module _ {bs : List ℕ} {at count : ℕ} where
  pub scanned_start : Scanned bs at count 0
  scanned_start =
      let e : count - 0 ≡ count = omega arith in
      let p : at + 2 * 0 ≡ at = omega arith in
      record { within = omega arith; decides = rw (e, p) (omega arith) }

  module _ {i : ℕ} (s : Scanned bs at count i) where
    next : i < count →
        first_out (values (count - i) (drop (at + 2 * i) bs))
        ≡ cond (in_range (value (number (at + 2 * i) 2 bs))) (suc (first_out (values (count - (i + 1)) (drop (at + 2 * (i + 1)) bs)))) 0
    unfolding first_out
    next h =
        let e : count - i ≡ suc (count - (i + 1)) = omega arith in
        let p : at + 2 * (i + 1) ≡ at + 2 * i + 2 = omega arith in
        rw (e, p, values_suc)

    module _ {v : ℕ} (h : i < count) (ev : v ≡ number (at + 2 * i) 2 bs) (f : v < 65536) where
      pub scanned_in : (v + 2000) % 65536 ≤ 4000 → Scanned bs at count (i + 1)
      scanned_in t =
          let e : in_range (value v) ≡ true = sym (in_range_shifted v f) ∙ le-leb ((v + 2000) % 65536) 4000 t in
          let n : first_out (values (count - i) (drop (at + 2 * i) bs)) ≡ suc (first_out (values (count - (i + 1)) (drop (at + 2 * (i + 1)) bs))) = next h ∙ simp (← ev, e) in
          record { within = omega arith; decides = omega (arith, s.decides) }

      pub scanned_out : 4000 < (v + 2000) % 65536 → i ≡ first_out (values count (drop at bs))
      scanned_out t =
          let e : in_range (value v) ≡ false = sym (in_range_shifted v f) ∙ lt-leb ((v + 2000) % 65536) 4000 t in
          let n : first_out (values (count - i) (drop (at + 2 * i) bs)) ≡ 0 = next h ∙ simp (← ev, e) in
          omega (arith, s.decides)

    pub scanned_end : count ≤ i → i ≡ first_out (values count (drop at bs))
    unfolding values first_out
    scanned_end h =
        let e : count - i ≡ 0 = omega arith in
        let n : first_out (values (count - i) (drop (at + 2 * i) bs)) ≡ 0 = rw e in
        omega (arith, s.decides)

-- where not all are in range, one is out
out_by : (g : Bool) (a b : ℕ) → (g ≡ true → a < b) → cond g (suc a) 0 < suc b
out_by true a b h = omega (arith, h refl)
out_by false a b h = omega arith

pub one_out : (xs : List ℤ) → all_in_range xs ≡ false → first_out xs < length xs
unfolding all_in_range first_out
one_out [] e = absurd (let z : true ≡ false = e in let y : ◌≡◌ {A = ℕ} 0 1 = cc in omega arith)
one_out (x ∷ xs) e = out_by (in_range x) (first_out xs) (length xs) (λ t. one_out xs (sym (simp t) ∙ e))

-- where the first value out of range of xs stands in a file: these are the values from `at` on
pub record OutAt (xs : List ℤ) (bs : List ℕ) (at k : ℕ) : Type 0 where
  pub first : k ≡ first_out xs
  pub inside : at + 2 * k + 2 ≤ length bs
  pub few : length bs ≤ file_limit
  pub value_is : get_or xs k (pos 0) ≡ value (number (at + 2 * k) 2 bs)

pub out_at : {xs : List ℤ} (bs : List ℕ) (n : ℕ) {at k : ℕ} → xs ≡ values n (drop at bs) → all_in_range xs ≡ false → at + 2 * n ≤ length bs → length bs ≤ file_limit → k ≡ first_out (values n (drop at bs)) →
    OutAt xs bs at k
out_at {xs} bs n {at} {k} e o r l f =
    let g : k ≡ first_out xs = f ∙ ap first_out (sym e) in
    let h : k < n = omega (arith, one_out xs o, ap length e, length_values n (drop at bs)) in
    record { first = g; inside = omega arith; few = l; value_is = rw e (value_of_values n k at bs h) }
