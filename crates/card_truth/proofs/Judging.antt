-- What a card of right form is known by, and the outcomes of `judged`: refused by 37, 38 or 39, or answered.
use mathlib.Core.Path.{◌≡◌, refl, sym, ap, ◌∙◌}
use mathlib.Core.Bool.{Bool, true, false, ◌||◌, not}
use mathlib.Core.List.{List}
use Prim.Native.Nat.{ℕ, ◌-◌, ◌≤◌}
use native.Mathlib.Nat.{le_trans}
use native.Mathlib.Omega.{arith}
use borrow.Author.Tests.{eqb-true, eq-eqb, ne_eqb, not-true, not-false}
use lib.Dec.{leb}
use lib.ListN.{length, take}
use Rattle.frank_wolfe.specs.Vectors.{sum}
use Rattle.files.specs.Bytes.{number, between, length_in_range}
use Rattle.files.specs.Book.{boats}
use Rattle.files.specs.Sheet.{sheet, files_refusal}
use Rattle.files.proofs.Refusal.{and_true, between_true}
use Rattle.files.proofs.Accepted.{passed}
use Rattle.files.specs.Limits.{file_limit, step_limit}
use Rattle.method.specs.declared.Test.{Test}
use Rattle.method.specs.declared.Test.TheVariants.{Former, Sharper}
use Rattle.method.specs.declared.Answer.{Answer}
use Rattle.method.specs.Searched.{Refused, Answered}
use Rattle.method.specs.Problem.{Terms, allowed_steps, call_steps, call_problem, weight}
use Rattle.method.proofs.Schedules.{ScheduleSized}
use Rattle.method.specs.Answers.{outcome}
use Rattle.iteration.specs.declared.Layout.{Layout}
use Rattle.iteration.specs.States.{file_layout}
use Rattle.iteration.proofs.States.{book_fits, sheet_fits}
use Rattle.card_format.specs.Format.{card_fields, lettered, card_test, card_body, pair_count}
use Rattle.card_format.specs.Checks.{back_fits, pairs_in_order, counts_agree, steps_fit, form_refusal, shares_total, numbers_agree, truth_refusal}
use Rattle.method.specs.Bounds.{answer_of}
use Rattle.card_format.proofs.Accepted.{BackFits, back_means}
use Rattle.card_input.proofs.Reading.{tolerance_at}
use Rattle.card_truth.specs.Readable.{CardReadable}

-- what a card of right form is known by
pub record Formed (n steps : ℕ) (w : List ℕ) : Type 0 where
  pub readable : CardReadable steps w
  pub back : BackFits n (card_fields w).back w
  pub ordered : pairs_in_order (pair_count w) 0 n (card_body w) ≡ true

pub formed : (n c steps : ℕ) (w : List ℕ) → form_refusal n c steps w ≡ 0 → Formed n steps w
unfolding form_refusal length_in_range steps_fit
formed n c steps w e =
    let p1 = passed (between 36 file_limit (length w)) 30 _ e in
    let p2 = passed (lettered Former w || lettered Sharper w) 31 _ p1.1 in
    let p3 = passed (counts_agree n c w) 32 _ p2.1 in
    let p4 = passed (steps_fit steps w) 33 _ p3.1 in
    let p5 = passed (back_fits n (card_fields w).back w) 34 _ p4.1 in
    let p6 = passed (pairs_in_order (pair_count w) 0 n (card_body w)) 35 0 p5.1 in
    let k = between_true 1 steps (card_fields w).steps (and_true (between 1 3 (card_fields w).verdict) _ p4.0).1 in
    record {
      readable = record { long = (between_true 36 file_limit (length w) p1.0).0; some_step = k.0; most_steps = k.1 };
      back = back_means n (card_fields w).back w p5.0;
      ordered = p6.0;
    }

module _ (b s w : List ℕ) (ok : files_refusal b s ≡ 0) (m : Terms) (S : ScheduleSized m.schedule) {l : Layout} (e : l ≡ file_layout b s) (f : CardReadable (call_steps m s) w)
    (shares : List ℕ) where
  -- the shares, one a boat
  abbrev qs : List ℕ
  qs = take (boats b) shares

  pub few_boats : l.boats ≤ 256
  unfolding file_layout
  few_boats = rw e (book_fits b s ok).most_boats

  pub few_steps : (card_fields w).steps ≤ allowed_steps m.schedule step_limit
  few_steps = le_trans f.most_steps (S.more_steps (sheet_fits b s ok).most_steps)

  module _ (g : Bool) (eg : g ≡ shares_total m.schedule (pair_count w) (take l.boats shares) (card_fields w).steps) where
    total_is : shares_total m.schedule (pair_count w) qs (card_fields w).steps ≡ g
    unfolding file_layout
    total_is = sym (eg ∙ rw e)

    pub total_refused : not g ≡ true → Refused 37 ≡ outcome (truth_refusal (call_problem m b s) qs w) (answer_of (card_test w) (call_problem m b s) qs (card_fields w).steps)
    unfolding call_problem truth_refusal outcome
    total_refused k = rw (total_is, not-true g k) refl

    module _ (g₁ : not g ≡ false) {t : ℕ} (et : t ≡ (card_fields w).steps) where
      pub steps_asked : (1 ≤ t) × (t ≤ allowed_steps m.schedule step_limit)
      steps_asked = (omega (arith, f.some_step), rw et few_steps)

      pub total_asked : sum (take (boats b) shares) ≡ weight m.schedule t
      unfolding shares_total
      total_asked = rw et (eqb-true _ _ (and_true (leb (pair_count w) (card_fields w).steps) _ (total_is ∙ not-false g g₁)).1)

      module _ {test : Test} (eq : test ≡ card_test w) {a : Answer} (ea : a ≡ answer_of test (call_problem m b s) qs t) where
        answer_is : a ≡ answer_of (card_test w) (call_problem m b s) qs (card_fields w).steps
        answer_is = ea ∙ rw (eq, et)

        module _ {k : ℕ} (ek : k ≡ call_steps m s) (h : Bool) (eh : h ≡ numbers_agree k w a) where
          numbers_are : numbers_agree (call_steps m s) w (answer_of (card_test w) (call_problem m b s) qs (card_fields w).steps) ≡ h
          numbers_are = sym (eh ∙ rw (ek, answer_is))

          pub numbers_refused : not h ≡ true → Refused 38 ≡ outcome (truth_refusal (call_problem m b s) qs w) (answer_of (card_test w) (call_problem m b s) qs (card_fields w).steps)
          unfolding call_problem truth_refusal outcome
          numbers_refused q = rw (total_is, not-false g g₁, numbers_are, not-true h q) refl

          module _ (h₁ : not h ≡ false) {x : ℕ} (ex : x ≡ number (length w - 28) 4 w) {τ : ℕ} (eτ : τ ≡ (sheet s).tolerance) where
            pub tolerance_refused : (x ≡ τ → ⊥) → Refused 39 ≡ outcome (truth_refusal (call_problem m b s) qs w) (answer_of (card_test w) (call_problem m b s) qs (card_fields w).steps)
            unfolding call_problem truth_refusal outcome
            tolerance_refused q = rw (total_is, not-false g g₁, numbers_are, not-false h h₁, tolerance_at w f.long, ← ex, ← eτ, ne_eqb x τ q) refl

            accepts : x ≡ τ → truth_refusal (call_problem m b s) qs w ≡ 0
            unfolding call_problem truth_refusal
            accepts q = rw (total_is, not-false g g₁, numbers_are, not-false h h₁, tolerance_at w f.long, ← ex, ← eτ, eq-eqb x τ q) refl

            pub judged_true : x ≡ τ → Answered a ≡ outcome (truth_refusal (call_problem m b s) qs w) (answer_of (card_test w) (call_problem m b s) qs (card_fields w).steps)
            unfolding outcome
            judged_true q = rw (accepts q) (ap Answered answer_is)
