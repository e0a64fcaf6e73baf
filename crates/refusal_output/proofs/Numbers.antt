-- Numbers up to 17 are of a book or a sheet: no card is refused by one. Assumes nothing.
use mathlib.Core.Path.{◌≡◌, refl, sym, ap, ◌∙◌}
use mathlib.Core.Bool.{Bool, true, false, ◌||◌, not, cond}
use mathlib.Core.List.{List}
use Prim.Native.Nat.{ℕ, zero, suc, ◌≤◌, ◌<◌}
use native.Mathlib.Omega.{arith}
use lib.Dec.{eqb, eqb-suc-zero}
use Rattle.files.specs.Sheet.{files_refusal}
use Rattle.method.specs.Problem.{Problem, plain_terms, call_problem, call_steps}
use Rattle.files.specs.Book.{boats, columns}
use Rattle.files.specs.Bytes.{length_in_range}
use Rattle.method.specs.declared.Test.TheVariants.{Former, Sharper}
use Rattle.method.specs.Bounds.{answer_of}
use Rattle.card_format.specs.Format.{card_fields, lettered, card_test, card_body, pair_count, card_shares}
use Rattle.card_format.specs.Checks.{counts_agree, steps_fit, back_fits, pairs_in_order, shares_total, numbers_agree, form_refusal, truth_refusal, card_refusal, card_refusal_with, check_refusal, check_refusal_with}
use Rattle.better_card_promise.specs.declared.Choice.{Choice}
use Rattle.better_card_promise.specs.Choices.{better_refusal, choice}
use Rattle.better_card_promise.proofs.Choosing.{refusal_is}
use Rattle.listing.proofs.Outcomes.{same_refusal}

-- a number that is not of a file: 0, or above 17
abbrev NotFiles : ℕ → Type 0
NotFiles n = n ≤ 17 → n ≡ 0

passed_by : (g : Bool) (k : ℕ) {x : ℕ} → 17 < k → NotFiles x → NotFiles (cond (not g) k x)
passed_by true k h f = f
passed_by false k h f = λ e. absurd (omega arith)

form_not : (n c steps : ℕ) (w : List ℕ) → NotFiles (form_refusal n c steps w)
unfolding form_refusal
form_not n c steps w =
    passed_by (length_in_range 36 w) 31 (omega arith)
    (passed_by (lettered Former w || lettered Sharper w) 32 (omega arith)
    (passed_by (counts_agree n c w) 33 (omega arith)
    (passed_by (steps_fit steps w) 34 (omega arith)
    (passed_by (back_fits n (card_fields w).back w) 35 (omega arith) (passed_by (pairs_in_order (pair_count w) 0 n (card_body w)) 36 (omega arith) (λ e. refl))))))

last_by : (g : Bool) (k : ℕ) → 17 < k → NotFiles (cond g 0 k)
last_by true k h = λ e. refl
last_by false k h = λ e. absurd (omega arith)

truth_not : (p : Problem) (qs w : List ℕ) → NotFiles (truth_refusal p qs w)
unfolding truth_refusal
truth_not p qs w =
    passed_by (shares_total p.schedule (pair_count w) qs (card_fields w).steps) 37 (omega arith)
    (passed_by (numbers_agree p.steps w (answer_of (card_test w) p qs (card_fields w).steps)) 38 (omega arith) (last_by (eqb (card_fields w).tolerance p.tolerance) 39 (omega arith)))

-- the later number where the first is 0
later_by : (n : ℕ) {x : ℕ} → NotFiles n → NotFiles x → NotFiles (cond (eqb n 0) x n)
later_by zero f g = g
later_by (suc n) f g = rw (eqb-suc-zero n) f

card_not : (b s w : List ℕ) → NotFiles (card_refusal b s w)
unfolding card_refusal_with
card_not b s w = later_by (form_refusal (boats b) (columns b) (call_steps plain_terms s) w) (form_not (boats b) (columns b) (call_steps plain_terms s) w) (truth_not (call_problem plain_terms b s) (card_shares (boats b) w) w)

-- a number up to 17 behind that of the files is theirs
files_by : (f : ℕ) {x : ℕ} → NotFiles x → cond (eqb f 0) x f ≤ 17 → f ≡ cond (eqb f 0) x f
files_by zero g h = sym (g h)
files_by (suc f) g h = rw (eqb-suc-zero f)

module _ (b s w : List ℕ) {n : ℕ} where
  pub check_files : n ≡ check_refusal b s w 256 → n ≤ 17 → files_refusal b s ≡ n
  unfolding check_refusal_with
  check_files e h =
      let k : n ≡ cond (eqb (files_refusal b s) 0) (card_refusal b s w) (files_refusal b s) = e ∙ rw (same_refusal b s) in
      rw k (files_by (files_refusal b s) (card_not b s w) (rw k at h))

module _ (b s x y : List ℕ) where
  better_files : {n : ℕ} → n ≡ better_refusal b s x y → n ≤ 17 → files_refusal b s ≡ n
  unfolding better_refusal
  better_files e h = rw e (files_by (files_refusal b s) (later_by (card_refusal b s x) (card_not b s x) (card_not b s y)) (rw e at h))

  pub choice_files : {c : Choice} → c ≡ choice b s x y → c.refusal ≤ 17 → files_refusal b s ≡ c.refusal
  choice_files e h = better_files (ap (λ d. d.refusal) e ∙ refusal_is b s x y) h
