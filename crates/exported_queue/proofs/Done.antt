-- What the functions over a queue leave is what specs/Queue.antt of `sheet_queue` defines, and keeps its promise.
use mathlib.Core.Path.{◌≡◌, refl, sym, ap, ◌∙◌}
use mathlib.Core.Logic.{⊎_elim}
use mathlib.Core.List.{List}
use Prim.Native.Nat.{ℕ, zero, suc, ◌≤◌, ◌<◌}
use native.Mathlib.Omega.{arith}
use borrow.Author.Tests.{lt-ltb}
use lib.ListN.{length, get_or, take, length-set, get_or-map}
use lib.Seq.{get_or-set_same, get_or-set_other, get_or-take, length-take-le, ext_get_or}
use Rattle.sheet_queue.specs.declared.SheetRecord.{SheetRecord}
use Rattle.sheet_queue.specs.Queue.{blank, lengths, sheets_of, problems, queue_steps, queue_refusal, records_of, shares_of, filled, records_after, queue_slots_after}
use Rattle.sheet_queue.specs.Promise.{QueueRight}
use Rattle.sheet_queue.proofs.Rounds.{below_or_not}
use Rattle.sheet_queue.proofs.Records.{lengths_count}
use Rattle.sheet_queue.proofs.Refusals.{passes, too_many}
use Rattle.sheet_queue.proofs.Promise.{queue_right}
use Rattle.queue_rounds.specs.declared.Plan.{Plan}
use Rattle.queue_rounds.specs.Outcomes.{Outcome}
use Rattle.queue_rounds.specs.Plans.{plan_lengths}
use Rattle.queue_rounds.specs.Work.{count_after, plan_records, plan_slots, Ran}
use Rattle.queue_rounds.proofs.Turns.{same_or_other}
use Rattle.exported_queue.specs.Lists.{no_lengths, lengths_to, plan_of, stored}

-- ---- The lengths

length_at : (rs : List SheetRecord) (i : ℕ) → get_or (lengths rs) i 0 ≡ (get_or rs i blank).length
unfolding lengths
length_at rs i = get_or-map (λ (r : SheetRecord). r.length) rs i blank

noted_long : (rs : List SheetRecord) (n : ℕ) → n ≤ 16 → length (lengths_to rs n).at ≡ 16
unfolding lengths_to no_lengths
noted_long rs zero h = refl
noted_long rs (suc n) h = rw (lt-ltb n 16 (omega arith)) (length-set (lengths_to rs n).at n (get_or rs n blank).length ∙ noted_long rs n (omega arith))

noted_at : (rs : List SheetRecord) (n : ℕ) → n ≤ 16 → (i : ℕ) → i < n → get_or (lengths_to rs n).at i 0 ≡ (get_or rs i blank).length
unfolding lengths_to
noted_at rs zero h i l = absurd (omega arith)
noted_at rs (suc n) h i l =
    rw (lt-ltb n 16 (omega arith)) (⊎_elim
    (λ (e : i ≡ n). rw e (get_or-set_same (lengths_to rs n).at n (get_or rs n blank).length 0 (omega (arith, noted_long rs n (omega arith)))))
    (λ e. get_or-set_other (lengths_to rs n).at n i (get_or rs n blank).length 0 e ∙ noted_at rs n (omega arith) i (omega (arith, e)))
    (same_or_other i n))

lengths_are : (rs : List SheetRecord) → length rs ≤ 16 → take (length rs) (lengths_to rs (length rs)).at ≡ lengths rs
lengths_are rs h =
    let n = length-take-le (length rs) (lengths_to rs (length rs)).at (omega (arith, noted_long rs (length rs) h)) in
    ext_get_or 0 (take (length rs) (lengths_to rs (length rs)).at) (lengths rs) (n ∙ sym (lengths_count rs))
    (λ i l. get_or-take (length rs) (lengths_to rs (length rs)).at i 0 (omega (arith, n)) ∙ noted_at rs (length rs) h i (omega (arith, n)) ∙ sym (length_at rs i))

-- ---- The records

stored_long : (rs : List SheetRecord) (o : Outcome) (n : ℕ) → length (stored rs o n) ≡ length rs
unfolding stored
stored_long rs o zero = refl
stored_long rs o (suc n) = length-set (stored rs o n) n (get_or o.records n blank) ∙ stored_long rs o n

stored_at : (rs : List SheetRecord) (o : Outcome) (n : ℕ) → n ≤ length rs → (i : ℕ) → i < n → get_or (stored rs o n) i blank ≡ get_or o.records i blank
unfolding stored
stored_at rs o zero h i l = absurd (omega arith)
stored_at rs o (suc n) h i l =
    ⊎_elim
    (λ (e : i ≡ n). rw e (get_or-set_same (stored rs o n) n (get_or o.records n blank) blank (omega (arith, stored_long rs o n))))
    (λ e. get_or-set_other (stored rs o n) n i (get_or o.records n blank) blank e ∙ stored_at rs o n (omega arith) i (omega (arith, e)))
    (same_or_other i n)

stored_all : (rs : List SheetRecord) (o : Outcome) → length rs ≤ length o.records → stored rs o (length rs) ≡ take (length rs) o.records
stored_all rs o h =
    ext_get_or blank (stored rs o (length rs)) (take (length rs) o.records) (stored_long rs o (length rs) ∙ sym (length-take-le (length rs) o.records h))
    (λ i l. let s : i < length rs = omega (arith, stored_long rs o (length rs)) in stored_at rs o (length rs) (omega arith) i s ∙ sym (get_or-take (length rs) o.records i blank s))

-- ---- The call

count_most : (n : ℕ) (p : Plan) → count_after n p ≤ p.count
unfolding count_after
count_most zero p = omega arith
count_most (suc n) p = omega arith

module _ {b bs : List ℕ} {a : ℕ} (ys : List SheetRecord) {slots slots' : List ℕ} {r : Outcome} (R : Ran b (plan_of (lengths_to ys (length ys)) (length ys)) bs a slots r slots') where
  abbrev p : Plan
  p = plan_of (lengths_to ys (length ys)) (length ys)

  -- no more records than the queue has
  pub count_within : (r.count ≤ length ys) × (r.count ≤ 16)
  count_within = (omega (arith, R.count_is, count_most r.refusal p), R.count_few)

  few_lengths : length ys ≤ 16 → plan_lengths p ≡ lengths ys
  few_lengths h = lengths_are ys h

  number : r.refusal ≡ queue_refusal b (lengths ys) bs a (length slots)
  number = R.refusal_is ∙ rw (lengths_count ys) (⊎_elim (λ (h : 16 < length ys). too_many (length ys) b (plan_lengths p) (lengths ys) bs a h (length slots)) (λ (h : length ys ≤ 16). rw (few_lengths h)) (below_or_not 16 (length ys)))

  -- of a queue that is not refused
  module _ (z : r.refusal ≡ 0) where
    few : length ys ≤ 16
    few = (passes (length ys) b (plan_lengths p) bs a (length slots) (sym R.refusal_is ∙ z)).ahead.most

    count_all : r.count ≡ length ys
    unfolding count_after
    count_all = R.count_is ∙ ap (λ (n : ℕ). count_after n p) z

    records_all : take (length ys) r.records ≡ plan_records 0 b p bs a
    records_all = ap (λ (n : ℕ). take n r.records) (sym count_all) ∙ R.records_are ∙ ap (λ (n : ℕ). plan_records n b p bs a) z

    records_done : stored ys r r.count ≡ records_after 0 b bs a ys
    unfolding plan_records records_after
    records_done =
        ap (stored ys r) count_all
        ∙ stored_all ys r (omega (arith, few, R.records_long))
        ∙ records_all
        ∙ ap (λ (ns : List ℕ). records_of ns (problems b (sheets_of ns bs)) (queue_steps a (problems b (sheets_of ns bs)))) (few_lengths few)

    slots_done : slots' ≡ queue_slots_after 0 b bs a ys slots
    unfolding plan_slots queue_slots_after
    slots_done =
        R.slots_are ∙ ap (λ (n : ℕ). plan_slots n b p bs a slots) z
        ∙ ap (λ (ns : List ℕ). filled (shares_of (problems b (sheets_of ns bs)) (queue_steps a (problems b (sheets_of ns bs)))) slots) (few_lengths few)

  records_by : (n : ℕ) → r.refusal ≡ n → stored ys r r.count ≡ records_after n b bs a ys
  unfolding records_after stored count_after
  records_by zero e = records_done e
  records_by (suc n) e = let c : r.count ≡ 0 = R.count_is ∙ ap (λ (m : ℕ). count_after m p) e in ap (stored ys r) c

  slots_by : (n : ℕ) → r.refusal ≡ n → slots' ≡ queue_slots_after n b bs a ys slots
  unfolding queue_slots_after plan_slots
  slots_by zero e = slots_done e
  slots_by (suc n) e = R.slots_are ∙ ap (λ (m : ℕ). plan_slots m b p bs a slots) e

  pub queue_done : {zs : List SheetRecord} → zs ≡ stored ys r r.count →
      (r.refusal ≡ queue_refusal b (lengths ys) bs a (length slots)) × (zs ≡ records_after r.refusal b bs a ys) × (slots' ≡ queue_slots_after r.refusal b bs a ys slots) × QueueRight b bs a ys slots r.refusal zs slots'
  queue_done {zs} e =
      let f : zs ≡ records_after r.refusal b bs a ys = e ∙ records_by r.refusal refl in
      let g : slots' ≡ queue_slots_after r.refusal b bs a ys slots = slots_by r.refusal refl in
      (number, f, g, queue_right b bs a ys slots r.refusal zs slots' number f g)
