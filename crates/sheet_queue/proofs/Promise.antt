-- The promise of specs/Promise.antt holds of what specs/Queue.antt defines, whatever the input.
use mathlib.Core.Path.{◌≡◌, refl, sym, ap, ◌∙◌, subst}
use mathlib.Core.Bool.{Bool, true, false}
use mathlib.Core.Logic.{◌⊎◌, inl, inr, ⊎_elim, ◌↔◌}
use mathlib.Core.List.{List, []}
use Prim.Native.Nat.{ℕ, zero, suc, ◌+◌, ◌-◌, ◌*◌, ◌/◌, ◌≤◌, ◌<◌, min}
use native.Mathlib.Omega.{arith}
use borrow.Author.Tests.{eqb-true, eqb-false, eq-eqb, ne_eqb}
use lib.Dec.{eqb}
use lib.ListN.{length, get_or, take, drop}
use lib.Seq.{get_or-take, get_or-drop, take_at, length-take-le, get_or-append-add}
use Rattle.files.specs.Book.{boats}
use Rattle.files.specs.Sheet.{files_refusal}
use Rattle.files.proofs.Accepted.{files_accepted, book_accepted}
use Rattle.method.specs.Problem.{Problem, plain_terms, call_problem, problem}
use Rattle.method.specs.Iterates.{iterate}
use Rattle.method.specs.Answers.{slots_after, steps_used, run_iterate}
use Rattle.method.proofs.Shares.{iterate_mixed}
use Rattle.method.proofs.Accepted.{well_formed, in_range, sized}
use Rattle.method.proofs.Promise.{slots_kept}
use Rattle.method.proofs.Running.{stopped}
use Rattle.sheet_queue.specs.declared.SheetRecord.{SheetRecord}
use Rattle.sheet_queue.specs.Rounds.{steps_got}
use Rattle.files.specs.Front.{SameBook, SameSheet}
use Rattle.sheet_queue.specs.Alike.{SameOrEdition, Exchanged, SameQueue}
use Rattle.sheet_queue.proofs.Alike.{same_queue, of_edition, book_alike, of_front}
use Rattle.sheet_queue.specs.Queue.{blank, lengths, sheets_of, problems, with_steps, own_steps, queue_steps, queue_refusal, record_of, records_of, shares_of, filled, records_after, queue_slots_after}
use Rattle.sheet_queue.specs.Promise.{Fair, SheetRight, used_steps, part, Served, QueueRight}
use Rattle.sheet_queue.proofs.Fair.{fair, everyone_starts}
use Rattle.sheet_queue.proofs.Alone.{alone_steps, alone_iterate, alone_answer_steps, alone_own, alone_cut, own_most, alone_right}
use Rattle.sheet_queue.proofs.Parts.{Roomy, filled_length, filled_part, filled_rest}
use Rattle.sheet_queue.proofs.Refusals.{Passes, passes, sheet_accepted}
use Rattle.sheet_queue.proofs.Records.{lengths_count, sheets_count, own_count, own_at, records_count, records_lengths, records_used, records-at, shares_count, shares_at}

-- whether two numbers are equal, as a finished sheet says it
same_or_not : (k t : ℕ) → (eqb k t ≡ true) ↔ (k ≡ t)
same_or_not k t = (λ e. eqb-true k t e, λ e. eq-eqb k t e)

differ : (k t : ℕ) → eqb k t ≡ false → k ≡ t → ⊥
differ k t e = eqb-false k t e

-- one share a boat
pub book_shares : (b s : List ℕ) (ok : files_refusal b s ≡ 0) (k : ℕ) → length (iterate (problem b s) k).shares ≡ boats b
unfolding call_problem
book_shares b s ok k =
    let w = well_formed plain_terms b s ok in
    (iterate_mixed (problem b s) w.some_row w.wide k).count ∙ (files_accepted b s ok).0.row_count

-- ---- One sheet of n, whose record has the steps k
module _ (a n : ℕ) (b s : List ℕ) (ok : files_refusal b s ≡ 0) (k : ℕ) (least : 1 ≤ k) (most : k ≤ steps_used (problem b s)) (share : (k ≡ steps_used (problem b s)) ⊎ (a / n ≤ k)) where
  abbrev p : Problem
  p = problem b s

  some : 1 ≤ p.steps
  some = (sized plain_terms b s ok).some_steps

  within : k ≤ p.steps
  within = omega (arith, most, own_most k p some least most)

  pub sheet_shares : length (run_iterate (with_steps k p)).shares ≡ boats b
  sheet_shares = ap (λ x. length x.shares) (alone_iterate k p some least most) ∙ book_shares b s ok k

  pub sheet_right : (m : ℕ) (slots : List ℕ) → take (boats b) slots ≡ (run_iterate (with_steps k p)).shares → SheetRight a n b p (record_of m p k) slots
  unfolding record_of
  sheet_right m slots e =
      record {
        asked = refl;
        some_step = least;
        most_steps = within;
        share = λ f. ⊎_elim (λ g. absurd (differ k (steps_used p) f g)) (λ g. omega arith) share;
        finished = same_or_not k (steps_used p);
        alone_steps = alone_answer_steps k p some least most;
        alone_distance = refl;
        alone_gap = refl;
        alone_verdict = refl;
        alone_shares = e;
        right = rw e (alone_right k p (well_formed plain_terms b s ok) (in_range plain_terms b s ok) (sized plain_terms b s ok) least within);
        own = λ f. alone_own k p some least most (eqb-true k (steps_used p) f);
        cut = λ f. alone_cut k p some least most (omega (arith, differ k (steps_used p) f));
      }

-- ---- The sheets of a queue that is not refused
module _ (b bs : List ℕ) (a : ℕ) (queue : List SheetRecord) (slots : List ℕ) (P : Passes (length (lengths queue)) b (lengths queue) bs a (length slots)) where
  abbrev ns : List ℕ
  ns = lengths queue

  abbrev ss : List (List ℕ)
  ss = sheets_of ns bs

  abbrev ts : List ℕ
  ts = own_steps (problems b ss)

  abbrev ks : List ℕ
  ks = queue_steps a (problems b ss)

  pub queue_fair : Fair a ts ks
  unfolding queue_steps
  queue_fair = fair a ts

  count_ns : length ss ≡ length ns
  count_ns = sheets_count ns bs

  count_ts : length ts ≡ length ns
  count_ts = own_count b ss ∙ count_ns

  pub count_ks : length ks ≡ length ns
  count_ks = queue_fair.one_each ∙ count_ts

  module _ (i : ℕ) (h : i < length ns) where
    in_ss : i < length ss
    in_ss = omega (arith, count_ns)

    pub ok_at : files_refusal b (get_or ss i []) ≡ 0
    ok_at = sheet_accepted P i in_ss

    own_is : get_or ts i 0 ≡ steps_used (problem b (get_or ss i []))
    own_is = own_at b ss i in_ss

    own_some : 1 ≤ steps_used (problem b (get_or ss i []))
    own_some = (stopped (problem b (get_or ss i [])) (sized plain_terms b (get_or ss i []) ok_at).some_steps).later

    pub least_at : 1 ≤ get_or ks i 0
    unfolding queue_steps
    least_at = everyone_starts a ts (omega (arith, count_ts, P.ahead.enough)) i (omega (arith, count_ts)) (omega (arith, own_is, own_some))

    pub most_at : get_or ks i 0 ≤ steps_used (problem b (get_or ss i []))
    most_at = omega (arith, queue_fair.within_own i, own_is)

    share_at : (get_or ks i 0 ≡ steps_used (problem b (get_or ss i []))) ⊎ (a / length ns ≤ get_or ks i 0)
    share_at = ⊎_elim (λ e. inl (e ∙ own_is)) (λ e. inr (rw count_ts at e)) (queue_fair.share i (omega (arith, count_ts)))

    shares_is : get_or (shares_of (problems b ss) ks) i [] ≡ (run_iterate (with_steps (get_or ks i 0) (problem b (get_or ss i [])))).shares
    shares_is = shares_at b ss ks (count_ks ∙ sym count_ns) i in_ss

    pub shares_long : length (get_or (shares_of (problems b ss) ks) i []) ≡ boats b
    shares_long = ap length shares_is ∙ sheet_shares a (length ns) b (get_or ss i []) ok_at (get_or ks i 0) least_at most_at share_at

    pub right_at : (q : List ℕ) → take (boats b) q ≡ get_or (shares_of (problems b ss) ks) i [] →
        SheetRight a (length ns) b (problem b (get_or ss i [])) (get_or (records_of ns (problems b ss) ks) i blank) q
    right_at q e = rw (records-at b ns ss ks count_ns count_ks i h) (sheet_right a (length ns) b (get_or ss i []) ok_at (get_or ks i 0) least_at most_at share_at (get_or ns i 0) q (e ∙ shares_is))

  shares_number : length (shares_of (problems b ss) ks) ≡ length ns
  shares_number = shares_count b ss ks (count_ks ∙ sym count_ns) ∙ count_ns

  boats_few : boats b ≤ 256
  boats_few = (book_accepted b P.ahead.book).most_boats

  pub roomy : Roomy (shares_of (problems b ss) ks) slots
  roomy = record { few = λ i h. omega (arith, shares_long i (omega (arith, shares_number)), boats_few); room = omega (arith, shares_number, P.room) }

  abbrev new : List ℕ
  new = filled (shares_of (problems b ss) ks) slots

  part_is : (i : ℕ) → i < length ns → part i new ≡ slots_after 0 (get_or (shares_of (problems b ss) ks) i []) (part i slots)
  part_is i h = filled_part (shares_of (problems b ss) ks) slots roomy i (omega (arith, shares_number))

  served_each : (i : ℕ) → i < length ns → SheetRight a (length ns) b (problem b (get_or ss i [])) (get_or (records_of ns (problems b ss) ks) i blank) (part i new)
  served_each i h =
      right_at i h (part i new)
      (ap (take (boats b)) (part_is i h) ∙ slots_kept (get_or (shares_of (problems b ss) ks) i []) (part i slots) (boats b) (shares_long i h))

  records_number : length (records_of ns (problems b ss) ks) ≡ length ns
  records_number = records_count b ns ss ks count_ns count_ks

  pub served : Served b a ss (records_of ns (problems b ss) ks) new
  served =
      record {
        fair = rw (records_used b ns ss ks count_ns count_ks) queue_fair;
        each = λ i h. rw records_number (served_each i (omega (arith, records_number)));
      }

  other : (i j : ℕ) → i < length ns → boats b ≤ j → j < 256 → get_or new (256 * i + j) 0 ≡ get_or slots (256 * i + j) 0
  unfolding slots_after
  other i j h l m =
      let qs = get_or (shares_of (problems b ss) ks) i [] in
      let e : j ≡ length qs + (j - length qs) = omega (arith, shares_long i h) in
      at_part new ∙ ap (λ (z : List ℕ). get_or z j 0) (part_is i h)
      ∙ ap (λ (z : ℕ). get_or (slots_after 0 qs (part i slots)) z 0) e ∙ get_or-append-add qs (drop (length qs) (part i slots)) (j - length qs) 0
      ∙ get_or-drop (length qs) (part i slots) (j - length qs) 0 ∙ ap (λ (z : ℕ). get_or (part i slots) z 0) (sym e) ∙ sym (at_part slots)
    where
      at_part : (z : List ℕ) → get_or z (256 * i + j) 0 ≡ get_or (part i z) j 0
      at_part z = sym (get_or-drop (256 * i) z j 0) ∙ sym (get_or-take 256 (drop (256 * i) z) j 0 m)

-- ---- A call

module _ (b bs : List ℕ) (a : ℕ) (queue : List SheetRecord) (slots : List ℕ) where
  same_editions : (other : List SheetRecord) (bs' : List ℕ) → Exchanged SameOrEdition queue bs other bs' → SameQueue b bs a queue b bs' other slots
  same_editions other bs' x = same_queue b b refl refl (of_edition b) a x slots

  same_fronts : (b' : List ℕ) (other : List SheetRecord) (bs' : List ℕ) → SameBook b b' → Exchanged SameSheet queue bs other bs' → SameQueue b bs a queue b' bs' other slots
  same_fronts b' other bs' d x = let f = book_alike b b' d in same_queue b b' f.0 f.1 (of_front b b' d) a x slots

pub queue_right : (b bs : List ℕ) (a : ℕ) (queue : List SheetRecord) (slots : List ℕ) (refusal : ℕ) (queue' : List SheetRecord) (slots' : List ℕ) →
    refusal ≡ queue_refusal b (lengths queue) bs a (length slots) → queue' ≡ records_after refusal b bs a queue → slots' ≡ queue_slots_after refusal b bs a queue slots →
    QueueRight b bs a queue slots refusal queue' slots'
unfolding records_after queue_slots_after
queue_right b bs a queue slots (suc n) queue' slots' e f g =
    record {
      number = e;
      lengths_kept = ap lengths f;
      slots_kept = ap length g;
      refused = λ _. (f, g);
      served = λ h. absurd (omega arith);
      other_slots = λ i j h l m. ap (λ (z : List ℕ). get_or z (256 * i + j) 0) g;
      later_slots = ap (drop (256 * length queue)) g;
      editions = same_editions b bs a queue slots;
      fronts = same_fronts b bs a queue slots;
    }
queue_right b bs a queue slots zero queue' slots' e f g =
    let P = passes (length (lengths queue)) b (lengths queue) bs a (length slots) (sym e) in
    let ss = sheets_of (lengths queue) bs in
    let ks = queue_steps a (problems b ss) in
    let n = lengths_count queue in
    record {
      number = e;
      lengths_kept = ap lengths f ∙ records_lengths b (lengths queue) ss ks (sheets_count (lengths queue) bs) (count_ks b bs a queue slots P);
      slots_kept = ap length g ∙ filled_length (shares_of (problems b ss) ks) slots (roomy b bs a queue slots P);
      refused = λ h. absurd (omega arith);
      served = λ _. rw (f, g) (served b bs a queue slots P);
      other_slots = λ i j h l m. rw g (other b bs a queue slots P i j (omega (arith, n)) l m);
      later_slots = rw (g, ← n, ← shares_number b bs a queue slots P) (filled_rest (shares_of (problems b ss) ks) slots (roomy b bs a queue slots P));
      editions = same_editions b bs a queue slots;
      fronts = same_fronts b bs a queue slots;
    }
