-- With a table that counts 1, 2, 3, .. as far as the sheet asks for steps, cards are those without it, and so are their refusals.
use mathlib.Core.Path.{◌≡◌, refl}
use mathlib.Core.Bool.{not, ◌||◌, cond}
use mathlib.Core.List.{List}
use Prim.Native.Nat.{ℕ, zero, suc, ◌≤◌}
use lib.Dec.{eqb, ltb, eqb-suc-zero}
use lib.ListN.{length}
use Rattle.files.specs.Bytes.{between, length_in_range}
use Rattle.files.specs.Book.{boats, columns}
use Rattle.files.specs.Sheet.{sheet}
use Rattle.files.proofs.Refusal.{and_true, between_true}
use Rattle.files.proofs.Accepted.{passed}
use Rattle.method.specs.declared.Test.TheVariants.{Former, Sharper}
use Rattle.method.specs.ReleasedBoats.{gather}
use Rattle.method.specs.Problem.{Terms, call_problem}
use Rattle.method.specs.Calls.{call_refusal}
use Rattle.method.specs.Answers.{search_refusal_with}
use Rattle.method.specs.Bounds.{mixture_iterate}
use Rattle.method.specs.Promise.{Counts, without_table}
use Rattle.method.proofs.Counted.{counted_steps, counted_weight, counted_answer}
use Rattle.method.proofs.Promise.{counted_call, counted_search, counted_run}
use Rattle.card_format.specs.Format.{card_fields, lettered, card_test, card_shares, card_answer_with, run_card_with}
use Rattle.card_format.specs.Checks.{counts_agree, steps_fit, form_refusal, rests, shares_total, truth_refusal, card_refusal_with, write_refusal_with, check_refusal_with}
use Rattle.card_format.proofs.Accepted.{both_zero}

-- a card whose form is accepted has no more steps than it may
form_steps : (n c steps : ℕ) (w : List ℕ) → form_refusal n c steps w ≡ 0 → (card_fields w).steps ≤ steps
unfolding form_refusal steps_fit
form_steps n c steps w e =
    let p1 = passed (length_in_range 36 w) 30 _ e in
    let p2 = passed (lettered Former w || lettered Sharper w) 31 _ p1.1 in
    let p3 = passed (counts_agree n c w) 32 _ p2.1 in
    let p4 = passed (steps_fit steps w) 33 _ p3.1 in
    (between_true 1 steps (card_fields w).steps (and_true (between 1 3 (card_fields w).verdict) _ p4.0).1).1

module _ (m : Terms) (b s : List ℕ) (c : Counts m s) where
  -- ---- The writer

  abbrev plain : Terms
  plain = without_table m

  pub counted_card : call_refusal plain b s ≡ 0 → run_card_with m b s ≡ run_card_with plain b s
  unfolding run_card_with
  counted_card ok = rw ((counted_run m b s c ok).0, (counted_run m b s c ok).1)

  pub counted_writing : (room : ℕ) → write_refusal_with m b s room ≡ write_refusal_with plain b s room
  unfolding write_refusal_with
  counted_writing room = rw (counted_call m b s c) (by (call_refusal plain b s) refl)
    where
      by : (n : ℕ) → call_refusal plain b s ≡ n → cond (eqb n 0) (cond (ltb room (length (run_card_with m b s))) 22 0) n ≡ cond (eqb n 0) (cond (ltb room (length (run_card_with plain b s))) 22 0) n
      by zero e = rw (counted_card e)
      by (suc n) e = rw (eqb-suc-zero n)

  -- ---- The check

  module _ (w : List ℕ) where
    abbrev own : List ℕ
    own = gather m.released (card_shares (boats b) w)

    pub counted_card_answer : (card_fields w).steps ≤ (sheet s).steps → card_answer_with m b s w ≡ card_answer_with plain b s w
    unfolding card_answer_with call_problem
    counted_card_answer h = counted_answer m b s c (card_test w) (card_fields w).steps h (mixture_iterate (call_problem plain b s) own)

    counted_truth : (card_fields w).steps ≤ (sheet s).steps → truth_refusal (call_problem m b s) own w ≡ truth_refusal (call_problem plain b s) own w
    unfolding truth_refusal shares_total call_problem
    counted_truth h =
        rw (counted_weight m b s c (card_fields w).steps h, counted_answer m b s c (card_test w) (card_fields w).steps h (mixture_iterate (call_problem plain b s) own), counted_steps m b s c)

    pub counted_refusal : card_refusal_with m b s w ≡ card_refusal_with plain b s w
    unfolding card_refusal_with
    counted_refusal = rw (counted_steps m b s c) (by (form_refusal (boats b) (columns b) (sheet s).steps w) refl)
      where
        by : (n : ℕ) → form_refusal (boats b) (columns b) (sheet s).steps w ≡ n →
            cond (eqb n 0) (cond (not (rests m.released (card_shares (boats b) w))) 36 (truth_refusal (call_problem m b s) own w)) n
            ≡ cond (eqb n 0) (cond (not (rests m.released (card_shares (boats b) w))) 36 (truth_refusal (call_problem plain b s) own w)) n
        by zero e = rw (counted_truth (form_steps (boats b) (columns b) (sheet s).steps w e))
        by (suc n) e = rw (eqb-suc-zero n)

    pub counted_check : (slots : ℕ) → check_refusal_with m b s w slots ≡ check_refusal_with plain b s w slots
    unfolding check_refusal_with
    counted_check slots = rw (counted_search m b s c slots, counted_refusal)

    pub counted_checked : (slots : ℕ) → check_refusal_with plain b s w slots ≡ 0 → card_answer_with m b s w ≡ card_answer_with plain b s w
    unfolding check_refusal_with card_refusal_with
    counted_checked slots e =
        let p = both_zero (search_refusal_with plain b s slots) (card_refusal_with plain b s w) e in
        let q = both_zero (form_refusal (boats b) (columns b) (sheet s).steps w) _ p.1 in
        counted_card_answer (form_steps (boats b) (columns b) (sheet s).steps w q.0)
