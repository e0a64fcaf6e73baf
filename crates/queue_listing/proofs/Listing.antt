-- The lengths put into a plan, and the listing of what the plan's queue leaves.
use mathlib.Core.Path.{◌≡◌, refl, sym, ap, ◌∙◌}
use mathlib.Core.Logic.{⊎_elim}
use mathlib.Core.List.{List, [], ◌∷◌, ◌++◌}
use Prim.Native.Nat.{ℕ, zero, suc, ◌≤◌, ◌<◌}
use native.Mathlib.Omega.{arith}
use lib.ListN.{length, take, drop, replicate, length-append, length-drop}
use lib.Seq.{take_at}
use Rattle.text.specs.declared.Text.{Text}
use Rattle.text.specs.Texts.{Holds}
use Rattle.listing.specs.Lines.{refused_line}
use Rattle.sheet_queue.specs.Queue.{lengths, sheets_of, problems, queue_steps, refusal_of, accepted_of, records_of, records_after}
use Rattle.sheet_queue.proofs.Rounds.{below_or_not}
use Rattle.sheet_queue.proofs.Refusals.{passes, too_many, too_many_accepted}
use Rattle.sheet_queue.proofs.Promise.{queue_right}
use Rattle.queue_rounds.specs.declared.Plan.{Plan}
use Rattle.queue_rounds.specs.Outcomes.{Outcome}
use Rattle.queue_rounds.specs.Plans.{plan_lengths}
use Rattle.queue_rounds.specs.Work.{count_after, plan_records, Ran}
use Rattle.queue_listing.specs.Plans.{Plans}
use Rattle.queue_listing.specs.Lines.{sheet_lines, queue_text, queue_of, no_shares, listing_refusal, listing_accepted, queue_listing, ListedRight}

-- ---- The plan

module _ {ns : List ℕ} where
  -- the lengths stand in the first slots
  pub few_planned : {part : List ℕ} → length ns ≤ 16 → part ≡ ns → Plans ns (record { count = length ns; lengths = part ++ drop (length ns) (replicate 16 0) })
  few_planned h e =
      record {
        count_is = refl;
        long = rw (e, length-append ns (drop (length ns) (replicate 16 0)), length-drop (length ns) (replicate {A = ℕ} 16 0)) (omega arith);
        lengths_are = λ f. rw e (take_at ns (drop (length ns) (replicate 16 0)) (length ns) refl);
      }

  pub many_planned : {first : List ℕ} → 16 < length ns → length first ≡ 16 → Plans ns (record { count = length ns; lengths = first })
  many_planned h l = record { count_is = refl; long = l; lengths_are = λ f. absurd (omega arith) }

-- ---- The listing

lengths_of : (ns : List ℕ) → lengths (queue_of ns) ≡ ns
unfolding lengths queue_of
lengths_of [] = refl
lengths_of (n ∷ ns) = ap (λ (ms : List ℕ). n ∷ ms) (lengths_of ns)

pub listed_right : (b ns bs : List ℕ) (a : ℕ) → ListedRight b ns bs a
listed_right b ns bs a = queue_right b bs a (queue_of ns) no_shares (listing_refusal b ns bs a) _ _ (rw (lengths_of ns)) refl refl

module _ {b ns bs : List ℕ} {a : ℕ} {p : Plan} {r : Outcome} {slots' : List ℕ} (P : Plans ns p) (R : Ran b p bs a no_shares r slots') where
  pub number_is : r.refusal ≡ listing_refusal b ns bs a
  number_is =
      R.refusal_is ∙ ap (λ (n : ℕ). refusal_of n b (plan_lengths p) bs a 4096) P.count_is
      ∙ ⊎_elim (λ (h : 16 < length ns). too_many (length ns) b (plan_lengths p) ns bs a h 4096) (λ (h : length ns ≤ 16). ap (λ (ms : List ℕ). refusal_of (length ns) b ms bs a 4096) (P.lengths_are h)) (below_or_not 16 (length ns))

  pub accepted_is : r.accepted ≡ listing_accepted b ns bs a
  accepted_is =
      R.accepted_is ∙ ap (λ (n : ℕ). accepted_of n b (plan_lengths p) bs a) P.count_is
      ∙ ⊎_elim (λ (h : 16 < length ns). too_many_accepted (length ns) b (plan_lengths p) ns bs a h) (λ (h : length ns ≤ 16). ap (λ (ms : List ℕ). accepted_of (length ns) b ms bs a) (P.lengths_are h)) (below_or_not 16 (length ns))

  -- all of them where none refuses: as many as there are records
  pub accepted_all : r.refusal ≡ 0 → r.accepted ≡ r.count → length ns ≡ listing_accepted b ns bs a
  unfolding count_after
  accepted_all z e = sym P.count_is ∙ sym (R.count_is ∙ ap (λ (n : ℕ). count_after n p) z) ∙ sym e ∙ accepted_is

  refused_by : {t : Text} (n : ℕ) → (n ≡ 0 → ⊥) → Holds (refused_line n) t → Holds (queue_text n (records_after n b bs a (queue_of ns))) t
  unfolding queue_text
  refused_by zero h q = absurd (h refl)
  refused_by (suc n) h q = q

  pub refused_listed : {t : Text} → (r.refusal ≡ 0 → ⊥) → Holds (refused_line r.refusal) t → Holds (queue_listing b ns bs a) t
  unfolding queue_listing
  refused_listed h q = rw (sym number_is) (refused_by r.refusal h q)

  -- of a queue that is not refused
  module _ (z : r.refusal ≡ 0) where
    few : length ns ≤ 16
    few = (passes (length ns) b ns bs a 4096 (sym number_is ∙ z)).ahead.most

    records_are : take r.count r.records ≡ records_after 0 b bs a (queue_of ns)
    unfolding plan_records records_after
    records_are =
        R.records_are ∙ ap (λ (n : ℕ). plan_records n b p bs a) z
        ∙ ap (λ (ms : List ℕ). records_of ms (problems b (sheets_of ms bs)) (queue_steps a (problems b (sheets_of ms bs)))) (P.lengths_are few ∙ sym (lengths_of ns))

    pub lines_listed : {t : Text} → Holds (sheet_lines 0 (take r.count r.records)) t → Holds (queue_listing b ns bs a) t
    unfolding queue_listing queue_text
    lines_listed h = rw (sym number_is ∙ z) (rw records_are at h)
