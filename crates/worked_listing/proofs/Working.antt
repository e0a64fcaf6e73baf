-- What the call leaves is listed as its result is.
use mathlib.Core.Path.{◌≡◌, refl, sym, ap, ◌∙◌, subst}
use mathlib.Core.Bool.{Bool, true, false, not, cond}
use mathlib.Core.List.{List}
use Prim.Native.Nat.{ℕ, zero, suc, ◌≤◌, ◌<◌}
use native.Mathlib.Omega.{arith}
use lib.Dec.{eqb, ltb}
use lib.ListN.{length, take}
use Rattle.files.specs.Sheet.{files_refusal}
use Rattle.files.specs.Book.{boats}
use Rattle.method.specs.declared.Answer.{Answer}
use Rattle.method.specs.Problem.{plain_terms, problem}
use Rattle.files.specs.Bytes.{between}
use Rattle.method.specs.Calls.{before}
use Rattle.method.specs.Answers.{outcome, search_refusal, slots_after, verdict_number, run_answer}
use Rattle.card_format.specs.Written.{Written}
use Rattle.card_format.specs.Written.{Refused, Filed}
use Rattle.card_format.specs.Filing.{writing_number, written_size, filing, ReadsBackWith}
use Rattle.card_format.specs.Format.{card_limit, card_shares, card_answer}
use Rattle.card_format.proofs.Filing.{filing_number}
use Rattle.card_format.specs.Checks.{card_refusal, check_refusal, check_refusal_with}
use Rattle.pairwise.specs.Moves.{spent_refusal, moves_refusal, worked_answer}
use Rattle.pairwise.specs.Call.{worked_slots, worked_card, work_refusal, WorkingRight}
use Rattle.text.specs.Texts.{Holds}
use Rattle.text.specs.declared.Text.{Text}
use Rattle.listing.specs.Lines.{refused_line, outcome_listing}
use Rattle.listing.proofs.Outcomes.{same_refusal}
use Rattle.card_listing.specs.Cards.{card_listing}
use Rattle.worked_listing.specs.Working.{work_number, work_filing, working_listing, written_listing, Served}

-- what is said of a reply: its number, as many bytes as were written, and the listing
abbrev Says : (b s : List ℕ) → Written → (buffer : List ℕ) → (refusal len : ℕ) → Text → Type 0
Says b s w buffer n len t = (n ≡ writing_number w) × ((len ≡ written_size w) × Holds (written_listing b s w buffer) t)

pub refused_said : {w : Written} {t : Text} (b s buffer : List ℕ) (k : ℕ) → w ≡ Refused k → Holds (refused_line k) t → Says b s w buffer k 0 t
unfolding writing_number written_size written_listing
refused_said b s buffer k e h = rw e (refl, (refl, h))

pub filed_said : {w : Written} {t : Text} (b s buffer : List ℕ) (a : Answer) (size : ℕ) → w ≡ Filed a size → Holds (card_listing b s (take size buffer)) t → Says b s w buffer 0 size t
unfolding writing_number written_size written_listing
filed_said b s buffer a size e h = rw e (refl, (refl, h))

pub size_fits : {w : Written} {m : ℕ} (a : Answer) (size : ℕ) → w ≡ Filed a size → written_size w ≤ m → size ≤ m
unfolding written_size
size_fits a size e h = rw e at h

-- a card that the check accepts and reads back is listed as what it reads back as
read_back_listed : (b s card : List ℕ) (a : Answer) (qs : List ℕ) → files_refusal b s ≡ 0 → ReadsBackWith plain_terms b s card a qs →
    card_listing b s card ≡ outcome_listing b s (outcome 0 a) qs
unfolding card_listing check_refusal_with
read_back_listed b s card a qs ok r = rw (same_refusal b s, ok, r.accepted, r.answer, r.shares)

-- of the files where nothing refuses the call
files_pass : (b s : List ℕ) (n room : ℕ) → work_refusal plain_terms b s n room ≡ 0 → files_refusal b s ≡ 0
unfolding work_refusal
files_pass b s n room e = by (files_refusal b s) refl e
  where
    by : (k : ℕ) → files_refusal b s ≡ k → work_refusal plain_terms b s n room ≡ 0 → files_refusal b s ≡ 0
    by zero f e = f
    by (suc k) f e = let g : suc k ≡ 0 = rw f at e in absurd (omega arith)

module _ (b s : List ℕ) (n : ℕ) (now : List ℕ) where
  listed_by : (k : ℕ) → work_number b s n ≡ k → (w : Written) → w ≡ filing k (worked_answer (problem b s) n) (length (worked_card plain_terms b s n)) → WorkingRight plain_terms b s n w now →
      written_listing b s w now ≡ working_listing b s n
  unfolding written_listing working_listing filing written_size outcome outcome_listing
  listed_by (suc k) e w f W = rw (f, e)
  listed_by zero e w f W =
      let A = worked_answer (problem b s) n in
      let size : written_size w ≡ length (worked_card plain_terms b s n) = ap written_size f in
      ap (λ (v : Written). written_listing b s v now) f
      ∙ ap (λ (m : ℕ). card_listing b s (take m now)) (sym size)
      ∙ read_back_listed b s (take (written_size w) now) A (worked_slots plain_terms b s n) (files_pass b s n card_limit e) (W.filed A (length (worked_card plain_terms b s n)) f).reads_back
      ∙ sym (ap (λ (k : ℕ). outcome_listing b s (outcome k A) (worked_slots plain_terms b s n)) e)

  pub working_listed : {t : Text} (w : Written) → w ≡ work_filing b s n → WorkingRight plain_terms b s n w now → Holds (written_listing b s w now) t → Holds (working_listing b s n) t
  working_listed w f W h = rw (listed_by (work_number b s n) refl w f W) at h

-- what the call gives back and leaves in a buffer of 1,060 bytes
module _ (b s : List ℕ) (n : ℕ) (out now : List ℕ) (room : length out ≡ card_limit) {w : Written}
    (e : w ≡ filing (work_refusal plain_terms b s n (length out)) (worked_answer (problem b s) n) (length (worked_card plain_terms b s n))) (W : WorkingRight plain_terms b s n w now) where
  given_back : w ≡ work_filing b s n
  given_back = rw room at e

  fits_by : (k : ℕ) → w ≡ filing k (worked_answer (problem b s) n) (length (worked_card plain_terms b s n)) → written_size w ≤ card_limit
  unfolding written_size filing
  fits_by (suc k) f = rw f (omega arith)
  fits_by zero f =
      let F = W.filed (worked_answer (problem b s) n) (length (worked_card plain_terms b s n)) f in
      let h : length (worked_card plain_terms b s n) ≤ card_limit = rw F.card_is at F.short in
      rw f h

  pub size_most : written_size w ≤ card_limit
  size_most = fits_by (work_refusal plain_terms b s n (length out)) e

  -- what was filed is of files that serve
  pub served : Served b s w
  unfolding writing_number
  served a size f = files_pass b s n (length now) (sym W.number ∙ ap writing_number f)

  pub worked_said : {k len : ℕ} {t : Text} → now ≡ slots_after (work_refusal plain_terms b s n (length out)) (worked_card plain_terms b s n) out → Says b s w now k len t →
      (k ≡ work_number b s n) × ((len ≡ written_size (work_filing b s n)) × (Holds (working_listing b s n) t × ((now ≡ slots_after (work_number b s n) (worked_card plain_terms b s n) out) × WorkingRight plain_terms b s n (work_filing b s n) now)))
  worked_said g (i, (k, h)) = (
    i ∙ ap writing_number given_back ∙ filing_number (work_number b s n) (worked_answer (problem b s) n) (length (worked_card plain_terms b s n)),
    (
      k ∙ ap written_size given_back,
      (
        working_listed b s n now w given_back W h,
        (rw room at g, subst (λ (v : Written). WorkingRight plain_terms b s n v now) given_back W),
      ),
    ),
  )

-- ---- Numbers up to 17 are of the book or the sheet

-- a number that is not of a file: 0, or above 17
abbrev NotFiles : ℕ → Type 0
NotFiles n = n ≤ 17 → n ≡ 0

by_test : (g : Bool) (k : ℕ) {x : ℕ} → 17 < k → NotFiles x → NotFiles (cond g k x)
by_test true k h f = λ e. absurd (omega arith)
by_test false k h f = f

later_by : (k : ℕ) {x : ℕ} → NotFiles k → NotFiles x → NotFiles (before k x)
later_by zero f g = g
later_by (suc k) f g = f

-- a number up to 17 behind that of the files is theirs
files_by : (f : ℕ) {x : ℕ} → NotFiles x → before f x ≤ 17 → f ≡ before f x
files_by zero g h = sym (g h)
files_by (suc f) g h = refl

spent_not : (v n : ℕ) → NotFiles (spent_refusal v n)
unfolding spent_refusal
spent_not v n = by_test (not (eqb v 3)) 53 (omega arith) (by_test (not (between 1 1000 n)) 54 (omega arith) (λ e. refl))

pub work_files : (b s : List ℕ) (n : ℕ) {k : ℕ} → k ≡ work_number b s n → k ≤ 17 → files_refusal b s ≡ k
unfolding work_refusal
work_files b s n e h =
    let room = by_test (ltb card_limit (length (worked_card plain_terms b s n))) 22 (omega arith) (λ e. refl) in
    rw e (files_by (files_refusal b s) (later_by (moves_refusal (problem b s) n) (spent_not (verdict_number (run_answer (problem b s)).verdict) n) room) (rw e at h))
