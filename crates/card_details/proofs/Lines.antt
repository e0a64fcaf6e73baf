-- Texts with the parts of a line about a card, and the line by what the code finds.
use mathlib.Core.Path.{◌≡◌, refl, sym, ap, ◌∙◌}
use mathlib.Core.Bool.{Bool, true, false, cond}
use mathlib.Core.List.{List, []}
use Prim.Native.Nat.{ℕ, suc, ◌+◌, ◌*◌, ◌-◌, ◌≤◌, ◌<◌}
use native.Mathlib.Omega.{arith}
use borrow.Author.Tests.{eq-eqb, ne_eqb, lt-ltb, le-ltb, le-leb, lt-leb}
use lib.Dec.{eqb}
use lib.ListN.{length, take}
use lib.Seq.{take_all, length-take-le}
use Rattle.frank_wolfe.specs.Vectors.{sum}
use Rattle.files.specs.Bytes.{number, between, body_offset}
use Rattle.files.specs.Book.{boats, columns}
use Rattle.files.specs.Sheet.{sheet, files_refusal}
use Rattle.files.specs.Limits.{step_limit}
use Rattle.files.proofs.Accepted.{files_accepted}
use Rattle.text.specs.Decimal.{decimal}
use Rattle.text.specs.Texts.{Holds, Adds}
use Rattle.text.specs.declared.Text.{Text}
use Rattle.text.proofs.Texts.{adds_both, adds_to_empty, holds_more}
use Rattle.method.specs.declared.Answer.{Answer}
use Rattle.method.specs.Problem.{fixed, weight, plain_terms, call_problem}
use Rattle.std.specs.Prelude.{Result, Ok, Err}
use Rattle.refusals.specs.declared.Refusal.{Refusal}
use Rattle.refusals.specs.Numbers as Numbers
use Rattle.method.specs.Searched.{searched}
use Rattle.method.specs.Answers.{verdict_number, outcome}
use Rattle.method.proofs.Promise.{outcome_refused, outcome_answered}
use Rattle.method.specs.Bounds.{answer_of}
use Rattle.method.specs.declared.Test.{Test}
use Rattle.card_format.specs.Format.{card_fields, card_test, pair_count, card_shares, card_answer, card_answer_with}
use Rattle.card_format.specs.Checks.{check_refusal}
use Rattle.card_truth.specs.Readable.{CardReadable}
use Rattle.card_input.proofs.Reading.{back_at, verdict_at, tolerance_at, distance_at, gap_at, boats_at, columns_at}
use Rattle.card_details.specs.Words.{HAS, BYTES_BELOW, BYTES_ABOVE, NO_LETTERS, BOATS_BOOK, COLUMNS_BOOK, VERDICT, NOT_TO, STEPS_SHEET, BACK, MORE_THAN, BYTES_BEFORE, NOT_FOURS, SHARES_OF, BOATS_THAN, STEPS, TOTAL, NOT, DISTANCE, GAP, ITS_SHARES, SPENT, SHEET_HAS, TOLERANCE, SHEET}
use Rattle.card_details.specs.declared.EntryFault.{EntryFault}
use Rattle.card_details.specs.declared.EntryFault.TheVariants.{NotAbove, NotInBook, NoShare}
use Rattle.card_details.specs.Details.{NEWLINE, said, counts, size_line, counts_line, steps_line, back_line, fault_number, entry_fault, entry_line, entries_line, total_line, numbers_line, tolerance_line, form_line, truth_line, card_detail}

-- ---- Names, words and numbers
module _ (name : List ℕ) {t u : Text} where
  pub named_whole : length name ≤ 100 → Holds [] t → Adds t name u → Holds (take 100 name) u × (u.len ≤ 100)
  named_whole h e p = let z : take 100 name ≡ name = take_all 100 name h in (rw z (adds_to_empty e p), omega (arith, e.length_is, p.length_is))

  pub named_cut : 100 < length name → Holds [] t → Adds t (take 100 name) u → Holds (take 100 name) u × (u.len ≤ 100)
  named_cut h e p = (adds_to_empty e p, omega (arith, e.length_is, p.length_is, length-take-le 100 name (omega arith)))

  pub said_told : {words : List ℕ} → Holds (take 100 name) t → Adds t words u → Holds (said name words) u
  unfolding said
  said_told e p = holds_more e p

  pub counts_told : {words then end : List ℕ} (a b : ℕ) {t₁ t₂ t₃ t₄ : Text} → Holds (take 100 name) t → Adds t words t₁ → Adds t₁ (decimal a) t₂ → Adds t₂ then t₃ → Adds t₃ (decimal b) t₄ → Adds t₄ end u →
      Holds (counts name words a then b end) u
  unfolding said counts
  counts_told a b e p q x y z = holds_more e (adds_both p (adds_both q (adds_both x (adds_both y z))))

-- ---- 31
module _ (name w : List ℕ) {t : Text} where
  pub size_short : length w < 36 → Holds (counts name HAS (length w) BYTES_BELOW 36 NEWLINE) t → Holds (size_line name w) t
  unfolding size_line
  size_short h x = rw (lt-leb 36 (length w) h) x

  pub size_long : 36 ≤ length w → Holds (said name BYTES_ABOVE) t → Holds (size_line name w) t
  unfolding size_line
  size_long h x = rw (le-leb 36 (length w) h) x

-- ---- 33
module _ (name b w : List ℕ) (h : 36 ≤ length w) {own n : ℕ} (eo : own ≡ number (length w - 8) 2 w) (en : n ≡ boats b) {t : Text} where
  pub columns_told : own ≡ n → {c d : ℕ} → c ≡ number (length w - 6) 2 w → d ≡ columns b → Holds (counts name HAS c COLUMNS_BOOK d NEWLINE) t → Holds (counts_line name b w) t
  unfolding counts_line
  columns_told q ec ed x = rw (boats_at w h, ← eo, ← en, eq-eqb own n q, columns_at w h, ← ec, ← ed) x

  pub boats_told : (own ≡ n → ⊥) → Holds (counts name HAS own BOATS_BOOK n NEWLINE) t → Holds (counts_line name b w) t
  unfolding counts_line
  boats_told q x = rw (boats_at w h, ← eo, ← en, ne_eqb own n q) x

-- ---- 34
module _ (name s w : List ℕ) (h : 36 ≤ length w) {v : ℕ} (ev : v ≡ number (length w - 32) 2 w) {g : Bool} (eg : g ≡ between 1 3 v) {t : Text} where
  pub steps_told : g ≡ true → {k m : ℕ} → k ≡ (card_fields w).steps → m ≡ (sheet s).steps → Holds (counts name HAS k STEPS_SHEET m NEWLINE) t → Holds (steps_line name s w) t
  unfolding steps_line
  steps_told q ek em x = rw (verdict_at w h, ← ev, ← eg, q, ← ek, ← em) x

  pub verdict_told : g ≡ false → Holds (counts name VERDICT v NOT_TO 3 NEWLINE) t → Holds (steps_line name s w) t
  unfolding steps_line
  verdict_told q x = rw (verdict_at w h, ← ev, ← eg, q) x

-- ---- 35
module _ (name b w : List ℕ) (h : 36 ≤ length w) {back : ℕ} (eb : back ≡ number (length w - 36) 4 w) {t : Text} where
  pub fours_told : back ≤ length w - 36 → {n : ℕ} → n ≡ boats b → Holds (counts name BACK back NOT_FOURS (4 * n) NEWLINE) t → Holds (back_line name b w) t
  unfolding back_line
  fours_told q en x = rw (back_at w h, ← eb, le-leb back (length w - 36) q, ← en) x

  pub room_told : length w - 36 < back → Holds (counts name BACK back MORE_THAN (length w - 36) BYTES_BEFORE) t → Holds (back_line name b w) t
  unfolding back_line
  room_told q x = rw (back_at w h, ← eb, lt-leb back (length w - 36) q) x

-- ---- 36
pub fault_order : (next n boat share : ℕ) → boat < next → 1 ≡ entry_fault next n boat share
unfolding entry_fault
fault_order next n boat share h = simp (lt-ltb boat next h)

pub fault_book : (next n boat share : ℕ) → next ≤ boat → n ≤ boat → 2 ≡ entry_fault next n boat share
unfolding entry_fault
fault_book next n boat share h k = simp (le-ltb boat next h, le-leb n boat k)

pub fault_share : (next n boat share : ℕ) → next ≤ boat → boat < n → share ≡ 0 → 3 ≡ entry_fault next n boat share
unfolding entry_fault
fault_share next n boat share h k z = simp (le-ltb boat next h, lt-leb n boat k, eq-eqb share 0 z)

pub fault_none : (next n boat share : ℕ) → next ≤ boat → boat < n → (share ≡ 0 → ⊥) → 0 ≡ entry_fault next n boat share
unfolding entry_fault
fault_none next n boat share h k z = simp (le-ltb boat next h, lt-leb n boat k, ne_eqb share 0 z)

fault_positive : (f : EntryFault) → fault_number f ≡ 0 → ⊥
fault_positive NotAbove e = omega (arith, e)
fault_positive NotInBook e = omega (arith, e)
fault_positive NoShare e = omega (arith, e)

entries_more : (name : List ℕ) (i k next n at : ℕ) (w : List ℕ) →
    entries_line name i (suc k) next n at w ≡
    cond (eqb (entry_fault next n (number at 2 w) (number (at + 2) 2 w)) 0) (entries_line name (i + 1) k (number at 2 w + 1) n (at + 4) w)
    (entry_line name (i + 1) (number at 2 w) (entry_fault next n (number at 2 w) (number (at + 2) 2 w)))
unfolding entries_line
entries_more name i k next n at w = refl

entries_none : (name : List ℕ) (i next n at : ℕ) (w : List ℕ) → entries_line name i 0 next n at w ≡ []
unfolding entries_line
entries_none name i next n at w = refl

-- the first i entries have no fault, so those from `at` on decide
pub record Entered (name w : List ℕ) (start count n i next at : ℕ) : Type 0 where
  pub within : i ≤ count
  pub place : at ≡ start + 4 * i
  pub later : entries_line name i (count - i) next n at w ≡ entries_line name 0 count 0 n start w

pub entered_start : {name w : List ℕ} {start count n : ℕ} → Entered name w start count n 0 0 start
entered_start {name} {w} {start} {count} {n} = let e : count - 0 ≡ count = omega arith in record { within = omega arith; place = omega arith; later = rw e }

module _ {name w : List ℕ} {start count n i next at : ℕ} (d : Entered name w start count n i next at) where
  pub entered_end : {t : Text} → count ≤ i → Holds [] t → Holds (entries_line name 0 count 0 n start w) t
  entered_end h x = let e : count - i ≡ 0 = omega arith in rw (← d.later, e, entries_none name i next n at w) x

  module _ (h : i < count) {boat share fault : ℕ} (eb : boat ≡ number at 2 w) (es : share ≡ number (at + 2) 2 w) (ef : fault ≡ entry_fault next n boat share) where
    step : entries_line name 0 count 0 n start w ≡ cond (eqb fault 0) (entries_line name (i + 1) (count - (i + 1)) (boat + 1) n (at + 4) w) (entry_line name (i + 1) boat fault)
    step =
        let e : count - i ≡ suc (count - (i + 1)) = omega arith in
        sym d.later ∙ rw (e, entries_more name i (count - (i + 1)) next n at w, ← eb, ← es, ← ef)

    pub entered_fault : {t : Text} (f : EntryFault) → fault_number f ≡ fault → Holds (entry_line name (i + 1) boat (fault_number f)) t → Holds (entries_line name 0 count 0 n start w) t
    entered_fault f e x = rw (step, ← e, ne_eqb (fault_number f) 0 (fault_positive f)) x

    pub entered_more : fault ≡ 0 → Entered name w start count n (i + 1) (boat + 1) (at + 4)
    entered_more z = record { within = omega arith; place = omega (arith, d.place); later = sym (step ∙ rw (eq-eqb fault 0 z)) }

-- ---- 37
module _ (name b w : List ℕ) {k m : ℕ} (ek : k ≡ (card_fields w).steps) (em : m ≡ pair_count w) {t : Text} where
  pub many_told : k < m → Holds (counts name SHARES_OF m BOATS_THAN k STEPS) t → Holds (total_line name b w) t
  unfolding total_line
  many_told q x = rw (← ek, ← em, lt-ltb k m q) x

  pub total_told : m ≤ k → (shares : List ℕ) {n a z : ℕ} → n ≡ boats b → take (boats b) shares ≡ card_shares (boats b) w → a ≡ sum (take n shares) → z ≡ weight fixed k →
      Holds (counts name TOTAL a NOT z NEWLINE) t → Holds (total_line name b w) t
  unfolding total_line
  total_told q shares en es ea ez x =
      let e : sum (card_shares (boats b) w) ≡ _ = sym (ea ∙ rw (en, es)) in
      rw (← ek, ← em, le-ltb k m q, e, ← ez) x

-- ---- 38
module _ (name s w : List ℕ) (a : Answer) (h : 36 ≤ length w) {e : ℕ} (ee : e ≡ number (length w - 24) 8 w) {t : Text} where
  pub distance_told : (e ≡ a.distance → ⊥) → Holds (counts name DISTANCE e ITS_SHARES a.distance NEWLINE) t → Holds (numbers_line name s w a) t
  unfolding numbers_line
  distance_told q x = rw (distance_at w h, ← ee, ne_eqb e a.distance q) x

  module _ (qe : e ≡ a.distance) {g : ℕ} (eg : g ≡ number (length w - 16) 8 w) where
    pub gap_told : (g ≡ a.gap → ⊥) → Holds (counts name GAP g ITS_SHARES a.gap NEWLINE) t → Holds (numbers_line name s w a) t
    unfolding numbers_line
    gap_told q x = rw (distance_at w h, ← ee, eq-eqb e a.distance qe, gap_at w h, ← eg, ne_eqb g a.gap q) x

    module _ (qg : g ≡ a.gap) {v k : ℕ} (ev : v ≡ number (length w - 32) 2 w) (ek : k ≡ verdict_number a.verdict) where
      pub other_verdict : (v ≡ k → ⊥) → Holds (counts name VERDICT v ITS_SHARES k NEWLINE) t → Holds (numbers_line name s w a) t
      unfolding numbers_line
      other_verdict q x = rw (distance_at w h, ← ee, eq-eqb e a.distance qe, gap_at w h, ← eg, eq-eqb g a.gap qg, verdict_at w h, ← ev, ← ek, ne_eqb v k q) x

      pub spent_told : v ≡ k → {i m : ℕ} → i ≡ (card_fields w).steps → m ≡ (sheet s).steps → Holds (counts name SPENT i SHEET_HAS m STEPS) t → Holds (numbers_line name s w a) t
      unfolding numbers_line
      spent_told q ei em x =
          rw (distance_at w h, ← ee, eq-eqb e a.distance qe, gap_at w h, ← eg, eq-eqb g a.gap qg, verdict_at w h, ← ev, ← ek, eq-eqb v k q, ← ei, ← em) x

-- the answer of the shares, as the code finds it
module _ (b s w shares : List ℕ) {k : ℕ} (es : take (boats b) shares ≡ card_shares (boats b) w) (ek : k ≡ (card_fields w).steps) where
  pub answer_asked : files_refusal b s ≡ 0 → CardReadable (sheet s).steps w → sum (card_shares (boats b) w) ≡ weight fixed (card_fields w).steps →
      (files_refusal b s ≡ 0) × ((◌≡◌ {A = ℕ} 0 0) × (((1 ≤ k) × (k ≤ step_limit)) × (sum (take (boats b) shares) ≡ weight fixed k)))
  answer_asked ok f total = (ok, (refl, ((omega (arith, f.some_step), omega (arith, f.most_steps, (files_accepted b s ok).1.most_steps)), rw (es, ek) total)))

  pub answer_told : (name : List ℕ) {test : Test} {a : Answer} {t : Text} → test ≡ card_test w → a ≡ answer_of test (call_problem plain_terms b s) (take (boats b) shares) k → Holds (numbers_line name s w a) t →
      Holds (numbers_line name s w (card_answer b s w)) t
  unfolding card_answer_with
  answer_told name et ea x = let e : _ ≡ card_answer b s w = ea ∙ rw (et, es, ek) in rw (← e) x

-- ---- 39
pub tolerance_told : (name s w : List ℕ) → 36 ≤ length w → {a m : ℕ} {t : Text} → a ≡ number (length w - 28) 4 w → m ≡ (sheet s).tolerance → Holds (counts name TOLERANCE a SHEET m NEWLINE) t →
    Holds (tolerance_line name s w) t
unfolding tolerance_line
tolerance_told name s w h ea em x = rw (tolerance_at w h, ← ea, ← em) x

-- ---- The number of a check
module _ (m : ℕ) (a : Answer) {r : Result Answer Refusal} (e : searched r ≡ outcome m a) where
  pub refused_number : (x : Refusal) → r ≡ Err x → Numbers.number x ≡ m
  refused_number x q = sym (outcome_refused m (Numbers.number x) a (sym e ∙ ap searched q)).0

  pub answered_number : (b : Answer) → r ≡ Ok b → 0 ≡ m
  answered_number b q = sym (outcome_answered m a b (sym e ∙ ap searched q)).0

-- ---- By the number
module _ (name b s w : List ℕ) {r : ℕ} {t : Text} where
  pub form_31 : r ≡ 31 → Holds (size_line name w) t → Holds (form_line name b s w r) t
  unfolding form_line
  form_31 e x = rw e x

  pub form_32 : r ≡ 32 → Holds (said name NO_LETTERS) t → Holds (form_line name b s w r) t
  unfolding form_line
  form_32 e x = rw e x

  pub form_33 : r ≡ 33 → Holds (counts_line name b w) t → Holds (form_line name b s w r) t
  unfolding form_line
  form_33 e x = rw e x

  pub form_34 : r ≡ 34 → Holds (steps_line name s w) t → Holds (form_line name b s w r) t
  unfolding form_line
  form_34 e x = rw e x

  pub form_35 : r ≡ 35 → Holds (back_line name b w) t → Holds (form_line name b s w r) t
  unfolding form_line
  form_35 e x = rw e x

  pub form_36 : r ≡ 36 → {k n at : ℕ} → k ≡ pair_count w → n ≡ boats b → at ≡ body_offset 36 (card_fields w).back w → Holds (entries_line name 0 k 0 n at w) t → Holds (form_line name b s w r) t
  unfolding form_line
  form_36 e ek en ea x = rw (e, ← ea, ← ek, ← en) x

  pub truth_37 : r ≡ 37 → Holds (total_line name b w) t → Holds (truth_line name b s w r) t
  unfolding truth_line
  truth_37 e x = rw e x

  pub truth_38 : r ≡ 38 → Holds (numbers_line name s w (card_answer b s w)) t → Holds (truth_line name b s w r) t
  unfolding truth_line
  truth_38 e x = rw e x

  pub truth_39 : r ≡ 39 → Holds (tolerance_line name s w) t → Holds (truth_line name b s w r) t
  unfolding truth_line
  truth_39 e x = rw e x

  pub not_refused : {n : ℕ} → n ≡ check_refusal b s w 256 → (n ≡ r → ⊥) → Holds [] t → Holds (card_detail name b s w r) t
  unfolding card_detail
  not_refused {n} en d x = rw (← en, ne_eqb n r d) x

  module _ (e : check_refusal b s w 256 ≡ r) where
    pub by_form : r < 37 → Holds (form_line name b s w r) t → Holds (card_detail name b s w r) t
    unfolding card_detail
    by_form h x = rw (eq-eqb (check_refusal b s w 256) r e, lt-ltb r 37 h) x

    pub by_truth : 37 ≤ r → Holds (truth_line name b s w r) t → Holds (card_detail name b s w r) t
    unfolding card_detail
    by_truth h x = rw (eq-eqb (check_refusal b s w 256) r e, le-ltb r 37 h) x

    pub by_less : r < 31 → Holds [] t → Holds (card_detail name b s w r) t
    unfolding form_line
    by_less h x =
        by_form (omega arith)
        (rw (ne_eqb r 31 (λ z. omega arith), ne_eqb r 32 (λ z. omega arith), ne_eqb r 33 (λ z. omega arith), ne_eqb r 34 (λ z. omega arith), ne_eqb r 35 (λ z. omega arith), ne_eqb r 36 (λ z. omega arith)) x)

    pub by_more : 40 ≤ r → Holds [] t → Holds (card_detail name b s w r) t
    unfolding truth_line
    by_more h x = by_truth (omega arith) (rw (ne_eqb r 37 (λ z. omega arith), ne_eqb r 38 (λ z. omega arith), ne_eqb r 39 (λ z. omega arith)) x)
