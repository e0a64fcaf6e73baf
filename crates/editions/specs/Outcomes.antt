-- What the entries that take a book and a sheet give back and leave, by the terms of their contracts, and that two sheets have the same of
-- all of them. Definitions only.
use Rattle.std.specs.Prelude.{◌≡◌, List, ℕ, length}
use Rattle.files.specs.Book.{boats}
use Rattle.method.specs.Searched.{Searched}
use Rattle.method.specs.Problem.{problem}
use Rattle.method.specs.Answers.{outcome, search_refusal, slots_after, run_answer, run_iterate}
use Rattle.card_format.specs.Format.{card_shares, card_answer, run_card}
use Rattle.card_format.specs.Checks.{write_refusal, check_refusal}
use Rattle.card_format.specs.Written.{Written}
use Rattle.card_format.specs.Filing.{filing}
use Rattle.better_card_promise.specs.Choices.{better_refusal, better_part, choice}

-- of the search, with a lent share list: what is given back, and the list afterwards
abbrev pub searched : (book sheet slots : List ℕ) → Searched
searched b s slots = outcome (search_refusal b s (length slots)) (run_answer (problem b s))

abbrev pub search_slots : (book sheet slots : List ℕ) → List ℕ
search_slots b s slots = slots_after (search_refusal b s (length slots)) (run_iterate (problem b s)).shares slots

-- of the card writer, with a lent buffer
abbrev pub filed : (book sheet output : List ℕ) → Written
filed b s out = filing (write_refusal b s (length out)) (run_answer (problem b s)) (length (run_card b s))

abbrev pub filed_bytes : (book sheet output : List ℕ) → List ℕ
filed_bytes b s out = slots_after (write_refusal b s (length out)) (run_card b s) out

-- of the card check, with a lent share list
abbrev pub checked : (book sheet card slots : List ℕ) → Searched
checked b s w slots = outcome (check_refusal b s w (length slots)) (card_answer b s w)

abbrev pub check_slots : (book sheet card slots : List ℕ) → List ℕ
check_slots b s w slots = slots_after (check_refusal b s w (length slots)) (card_shares (boats b) w) slots

-- of the book b, the sheets s and o have the same outcome of every entry, whatever else is handed in, refusals included
pub record SameOutcomes (b s o : List ℕ) : Type 0 where
  pub search : (slots : List ℕ) → (searched b o slots ≡ searched b s slots) × (search_slots b o slots ≡ search_slots b s slots)
  pub writer : (out : List ℕ) → (filed b o out ≡ filed b s out) × (filed_bytes b o out ≡ filed_bytes b s out)
  pub check : (w slots : List ℕ) → (checked b o w slots ≡ checked b s w slots) × (check_slots b o w slots ≡ check_slots b s w slots)
  -- the number that is left, the part that is handed back, and both as numbers
  pub better : (x y : List ℕ) →
      (better_refusal b o x y ≡ better_refusal b s x y) × ((better_part b o x y ≡ better_part b s x y) × (choice b o x y ≡ choice b s x y))
