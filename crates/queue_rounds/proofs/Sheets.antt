-- The sheets of a plan: where each stands in the buffer, and how long it is.
use mathlib.Core.Path.{◌≡◌, refl, sym, ap, ◌∙◌}
use mathlib.Core.List.{List, [], ◌∷◌}
use Prim.Native.Nat.{ℕ, zero, suc, ◌+◌, ◌*◌, ◌-◌, ◌≤◌, ◌<◌}
use native.Mathlib.Omega.{arith}
use native.Mathlib.Numerals.{add-one}
use lib.ListN.{length, get_or, take, drop, length-take, length-drop}
use lib.Seq.{drop-drop, take-take, get_or-take, length-take-le, drop-length}
use Rattle.frank_wolfe.specs.Vectors.{sum}
use Rattle.files.specs.Sheet.{sheet_refusal}
use Rattle.sheet_queue.specs.Queue.{sheets_of, sheets_refusal, accepted_ahead}
use Rattle.sheet_queue.proofs.Records.{sheets_count}
use Rattle.sheet_queue.proofs.Refusals.{sheet_more, sheet_stops, accepted_more, accepted_stops}
use Rattle.queue_rounds.specs.declared.Plan.{Plan}
use Rattle.queue_rounds.specs.Plans.{plan_lengths, plan_sheets, sheet_of}

pub sum_take : (l : List ℕ) (i : ℕ) → i < length l → sum (take (suc i) l) ≡ sum (take i l) + get_or l i 0
unfolding sum
sum_take [] i h = absurd (omega arith)
sum_take (n ∷ ns) zero h = omega arith
sum_take (n ∷ ns) (suc i) h = omega (arith, sum_take ns i (omega arith))

sum_mono : (l : List ℕ) (i n : ℕ) → i ≤ n → sum (take i l) ≤ sum (take n l)
unfolding sum
sum_mono [] zero n h = omega arith
sum_mono [] (suc i) zero h = absurd (omega arith)
sum_mono [] (suc i) (suc n) h = omega arith
sum_mono (x ∷ l) zero n h = omega arith
sum_mono (x ∷ l) (suc i) zero h = absurd (omega arith)
sum_mono (x ∷ l) (suc i) (suc n) h = omega (arith, sum_mono l i n (omega arith))

sheets_at : (ns bs : List ℕ) (i : ℕ) → i < length ns → get_or (sheets_of ns bs) i [] ≡ take (get_or ns i 0) (drop (sum (take i ns)) bs)
unfolding sheets_of sum
sheets_at [] bs i h = absurd (omega arith)
sheets_at (n ∷ ns) bs zero h = refl
sheets_at (n ∷ ns) bs (suc i) h = sheets_at ns (drop n bs) i (omega arith) ∙ ap (take (get_or ns i 0)) (drop-drop (sum (take i ns)) n bs)

-- ---- The total of the first lengths, in a loop
pub record Totalled (l : List ℕ) (i n : ℕ) : Type 0 where
  pub total : n ≡ sum (take i l)
  pub few : n ≤ 4294967296 * i

pub totalled_none : (l : List ℕ) → Totalled l 0 0
unfolding sum
totalled_none l = record { total = refl; few = omega arith }

pub totalled_more : {l : List ℕ} {i n : ℕ} → Totalled l i n → i < length l → {x : ℕ} → x ≡ get_or l i 0 → x < 4294967296 → Totalled l (i + 1) (n + x)
totalled_more {l} {i} {n} t h {x} e f = record { total = rw add-one (omega (arith, t.total, e, sum_take l i h)); few = omega (arith, t.few) }

pub totalled_all : {l : List ℕ} {i n m : ℕ} → Totalled l i n → i ≤ m → m ≤ i → (n ≡ sum (take m l)) × (n ≤ 4294967296 * m)
totalled_all {l} {i} {n} {m} t h f = let e : i ≡ m = omega arith in rw (← e) (t.total, t.few)

module _ (p : Plan) (long : length p.lengths ≡ 16) (few : p.count ≤ 16) where
  count_is : length (plan_lengths p) ≡ p.count
  count_is = length-take-le p.count p.lengths (omega arith)

  pub sheet_count : (bs : List ℕ) → length (plan_sheets p bs) ≡ p.count
  sheet_count bs = sheets_count (plan_lengths p) bs ∙ count_is

  module _ (bs : List ℕ) (total : sum (plan_lengths p) ≡ length bs) (i : ℕ) (h : i < p.count) where
    ends : sum (take i p.lengths) + get_or p.lengths i 0 ≤ length bs
    ends = omega (arith, sum_take p.lengths i (omega arith), sum_mono p.lengths (suc i) p.count (omega arith), total)

    length_is : get_or (plan_lengths p) i 0 ≡ get_or p.lengths i 0
    length_is = get_or-take p.count p.lengths i 0 h

    stands : sheet_of p bs i ≡ take (get_or p.lengths i 0) (drop (sum (take i p.lengths)) bs)
    stands =
        sheets_at (plan_lengths p) bs i (omega (arith, count_is))
        ∙ rw (length_is, take-take i p.count p.lengths (omega arith))

    pub sheet_length : length (sheet_of p bs i) ≡ get_or (plan_lengths p) i 0
    sheet_length = ap length stands ∙ simp (length-take, length-drop, length_is) (omega (arith, ends))

    module _ {start n : ℕ} (es : start ≡ sum (take i p.lengths)) (en : n ≡ get_or p.lengths i 0) where
      pub sheet_inside : start + n ≤ length bs
      sheet_inside = omega (arith, es, en, ends)

      pub sheet_here : take (start + n - start) (drop start bs) ≡ sheet_of p bs i
      sheet_here = let k : start + n - start ≡ n = omega arith in rw (k, es, en) (sym stands)

-- ---- Sheet by sheet, in a loop: the first i are accepted, and those that are left decide
pub record Unrefused (c : ℕ) (ss : List (List ℕ)) (i : ℕ) : Type 0 where
  pub left : sheets_refusal c ss ≡ sheets_refusal c (drop i ss)
  pub accepted : accepted_ahead c ss ≡ i + accepted_ahead c (drop i ss)

module _ {c : ℕ} {ss : List (List ℕ)} where
  pub unrefused_none : Unrefused c ss 0
  unrefused_none = record { left = refl; accepted = omega arith }

  module _ {i : ℕ} (u : Unrefused c ss i) (h : i < length ss) {r : ℕ} (e : r ≡ sheet_refusal c (get_or ss i [])) where
    pub unrefused_more : r ≡ 0 → Unrefused c ss (i + 1)
    unrefused_more z =
        let ok = sym e ∙ z in
        record { left = u.left ∙ rw add-one (sheet_more c ss i h ok); accepted = rw add-one (omega (arith, u.accepted, accepted_more c ss i h ok)) }

    pub refused_here : (r ≡ 0 → ⊥) → (r ≡ sheets_refusal c ss) × (i ≡ accepted_ahead c ss)
    refused_here f =
        let g : sheet_refusal c (get_or ss i []) ≡ 0 → ⊥ = λ z. f (e ∙ z) in
        (e ∙ sym (u.left ∙ sheet_stops c ss i h g), omega (arith, u.accepted, accepted_stops c ss i h g))

  pub unrefused_all : {i n : ℕ} → Unrefused c ss i → length ss ≡ n → n ≤ i → i ≤ n → (0 ≡ sheets_refusal c ss) × (i ≡ accepted_ahead c ss)
  unfolding sheets_refusal accepted_ahead
  unrefused_all {i} {n} u e f l =
      let k : i ≡ length ss = omega arith in
      let z : accepted_ahead c (drop i ss) ≡ 0 = rw (k, drop-length ss) in
      (sym (u.left ∙ rw (k, drop-length ss)), omega (arith, u.accepted, z))
