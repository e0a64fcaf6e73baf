-- The listing of an outcome of a search or of a card check. Assumes nothing.
use mathlib.Core.Path.{◌≡◌, refl}
use mathlib.Core.Bool.{false}
use mathlib.Core.List.{List, [], append-nil}
use Prim.Native.Nat.{ℕ, zero, suc, ◌≤◌}
use native.Mathlib.Omega.{arith}
use borrow.Author.Tests.{le-ltb}
use lib.Dec.{ltb, eqb-suc-zero}
use lib.ListN.{length, take, drop}
use lib.Seq.{take_at, take_all, drop-length}
use Rattle.files.specs.Book.{boats, columns}
use Rattle.files.specs.Sheet.{sheet, files_refusal}
use Rattle.files.proofs.Accepted.{files_accepted}
use Rattle.method.specs.declared.Answer.{Answer}
use Rattle.std.specs.Prelude.{Result, Ok, Err}
use Rattle.refusals.specs.declared.Refusal.{Refusal}
use Rattle.refusals.specs.Numbers.{number, refusal_number}
use Rattle.method.specs.Searched.{Searched, Answered, searched, searched_by}
use Rattle.method.specs.Answers as Answers
use Rattle.method.specs.Answers.{outcome, search_refusal, slots_after, search_refusal_with}
use Rattle.listing.specs.Lines.{refused_line, boat_lines, head_lines, listing_of, outcome_listing, Listable, error_number}
use Rattle.text.specs.Texts.{Holds, Adds}
use Rattle.text.specs.declared.Text.{Text}
use Rattle.text.proofs.Texts.{adds_to_empty, holds_more}

module _ (b s : List ℕ) (ok : files_refusal b s ≡ 0) where
  pub book_length : 12 ≤ length b
  book_length = (files_accepted b s ok).0.at_least

  pub sheet_length : 16 ≤ length s
  sheet_length = (files_accepted b s ok).1.at_least

  pub few_boats : boats b ≤ 256
  few_boats = (files_accepted b s ok).0.most_boats

-- ---- An outcome

pub answer_listed : {t u : Text} {n c tolerance steps : ℕ} (b s : List ℕ) (a : Answer) (slots : List ℕ) → n ≡ boats b → c ≡ columns b → tolerance ≡ (sheet s).tolerance → steps ≡ (sheet s).steps →
    Holds (head_lines n c tolerance steps a) t → Adds t (boat_lines 0 (take n slots)) u → Holds (outcome_listing b s (Answered a) slots) u
unfolding outcome_listing listing_of
answer_listed b s a slots en ec et es h p = rw (← en, ← ec, ← et, ← es) (holds_more h p)

pub refusal_listed : {t : Text} {r : Result Answer Refusal} (b s slots : List ℕ) (e : Refusal) → r ≡ Err e → Holds (refused_line (number e)) t →
    (number e ≡ refusal_number r) × Holds (outcome_listing b s (searched r) slots) t
unfolding outcome_listing
refusal_listed b s slots e q h = rw q (refl, h)

pub outcome_listed : {t : Text} {r : Result Answer Refusal} (b s slots : List ℕ) (a : Answer) → r ≡ Ok a → Holds (outcome_listing b s (Answered a) slots) t →
    (0 ≡ refusal_number r) × Holds (outcome_listing b s (searched r) slots) t
outcome_listed b s slots a q h = rw q (refl, h)

pub listable_files : {r : Result Answer Refusal} (b s : List ℕ) (a : Answer) → r ≡ Ok a → Listable b s (searched r) → files_refusal b s ≡ 0
unfolding Listable
listable_files b s a q h = rw q at h

-- the same where any number may refuse
pub number_listed : {t : Text} {r : Result Answer ℕ} (b s slots : List ℕ) (n : ℕ) → r ≡ Err n → Holds (refused_line n) t →
    (n ≡ error_number r) × Holds (outcome_listing b s (searched_by r) slots) t
unfolding outcome_listing
number_listed b s slots n q h = rw q (refl, h)

pub result_listed : {t : Text} {r : Result Answer ℕ} (b s slots : List ℕ) (a : Answer) → r ≡ Ok a → Holds (outcome_listing b s (Answered a) slots) t →
    (0 ≡ error_number r) × Holds (outcome_listing b s (searched_by r) slots) t
result_listed b s slots a q h = rw q (refl, h)

pub numbered_files : {r : Result Answer ℕ} (b s : List ℕ) (a : Answer) → r ≡ Ok a → Listable b s (searched_by r) → files_refusal b s ≡ 0
unfolding Listable
numbered_files b s a q h = rw q at h

-- the number that a search or a card check comes to is that of what the code gives back
pub number_searched : (r : Result Answer Refusal) → Answers.refusal_number (searched r) ≡ refusal_number r
unfolding Answers.refusal_number
number_searched (Ok a) = refl
number_searched (Err e) = refl

-- an answer is listable where no refusal of the files is left out
pub listable : (b s : List ℕ) (n : ℕ) (a : Answer) → (n ≡ 0 → files_refusal b s ≡ 0) → Listable b s (outcome n a)
unfolding outcome Listable
listable b s zero a h = h refl
listable b s (suc n) a h = tt

-- the slots after the boats' are not listed
pub same_listing : (b s slots qs : List ℕ) (a : Answer) (n : ℕ) → (n ≡ 0 → length qs ≡ boats b) →
    outcome_listing b s (outcome n a) (slots_after n qs slots) ≡ outcome_listing b s (outcome n a) qs
unfolding outcome slots_after outcome_listing
same_listing b s slots qs a zero h = rw (take_at qs (drop (length qs) slots) (boats b) (h refl), take_all (boats b) qs (omega (arith, h refl)))
same_listing b s slots qs a (suc n) h = refl

-- ---- The refusal of a share list that is long enough

refusal_is : (b s : List ℕ) (n slots : ℕ) → n ≡ files_refusal b s → (n ≡ 0 → boats b ≤ slots) → search_refusal b s slots ≡ n
unfolding search_refusal_with
refusal_is b s zero slots e h = let k : ltb slots (boats b) ≡ false = le-ltb slots (boats b) (h refl) in rw (← e, k)
refusal_is b s (suc n) slots e h = rw (← e, eqb-suc-zero n)

pub long_enough : (b s : List ℕ) (slots : ℕ) → (files_refusal b s ≡ 0 → boats b ≤ slots) → search_refusal b s slots ≡ files_refusal b s
long_enough b s slots h = refusal_is b s (files_refusal b s) slots refl h

pub same_refusal : (b s : List ℕ) → search_refusal b s 256 ≡ files_refusal b s
same_refusal b s = long_enough b s 256 (few_boats b s)

-- shares that are put into themselves
pub after_itself : (n : ℕ) (qs : List ℕ) → slots_after n qs qs ≡ qs
unfolding slots_after
after_itself zero qs = rw (drop-length, append-nil)
after_itself (suc n) qs = refl
