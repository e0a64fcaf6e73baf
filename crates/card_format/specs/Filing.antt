-- What the card writer gives back and leaves in its buffer. Definitions only.
use Rattle.std.specs.Prelude.{◌≡◌, List, ◌++◌, ℕ, zero, suc, ◌+◌, ◌≤◌, length, take}
use Rattle.files.specs.Book.{boats, book_refusal}
use Rattle.files.specs.Editions.{Editions}
use Rattle.files.specs.Front.{SameBook, SameSheet}
use Rattle.files.specs.Limits.{file_limit}
use Rattle.method.specs.declared.Answer.{Answer}
use Rattle.method.specs.ReleasedBoats.{gather}
use Rattle.method.specs.Problem.{Terms, plain_terms, fleet_problem, call_problem}
use Rattle.method.specs.Answers.{run_answer, run_slots, slots_after}
use Rattle.method.specs.BookNumbers.{ReleasedRun, SameReleased, AllBoats}
use Rattle.method.specs.Promise.{RunRight, Counts, without_table, without_set}
use Rattle.card_format.specs.Format.{card_shares, card_answer_with, run_card_with}
use Rattle.card_format.specs.Checks.{card_refusal_with, write_refusal_with}
use Rattle.card_format.specs.Written.{Written}
use Rattle.card_format.specs.Written.{Refused, Filed}

-- ---- The enum by number

-- the number that refuses, 0 for a card that was filed
unfoldable pub writing_number : Written → ℕ
writing_number (Refused n) = n
writing_number (Filed a size) = 0

-- how many bytes were written, none on a refusal
unfoldable pub written_size : Written → ℕ
written_size (Refused n) = 0
written_size (Filed a size) = size

-- a refusal where there is a number, else the answer and the length of its card
unfoldable pub filing : (refusal : ℕ) → Answer → (size : ℕ) → Written
filing zero a size = Filed a size
filing (suc n) a size = Refused (suc n)

-- ---- The promise

-- the card check accepts these bytes, and reads this answer and these shares from them
pub record ReadsBackWith (m : Terms) (b s card : List ℕ) (a : Answer) (qs : List ℕ) : Type 0 where
  pub accepted : card_refusal_with m b s card ≡ 0
  pub answer : card_answer_with m b s card ≡ a
  pub shares : card_shares (boats b) card ≡ qs

-- of a filed answer, and the bytes that were written
pub record FiledRightWith (m : Terms) (b s : List ℕ) (a : Answer) (card : List ℕ) : Type 0 where
  pub card_is : card ≡ run_card_with m b s
  -- they read back as the answer given back and the shares of the run
  pub reads_back : ReadsBackWith m b s card a (run_slots m b s)
  -- also behind any front text that keeps within 40,000 bytes
  pub behind_front : (front : List ℕ) → length front + length card ≤ file_limit → ReadsBackWith m b s (front ++ card) a (run_slots m b s)
  -- the answer is that of a run whose shares are in the card's body
  pub right : RunRight (call_problem m b s) a (gather m.released (card_shares (boats b) card))
  -- by the numbers of the book: other boats hold no shares, and the bounds are of any mixture of its boats that rests on released ones
  pub in_book : ReleasedRun m.released (fleet_problem m b s) a (card_shares (boats b) card)

-- with other terms and another book, a call gives the same back and leaves every buffer the same
pub record SameFiling (m m' : Terms) (b b' s : List ℕ) : Type 0 where
  pub given : (room : ℕ) →
      filing (write_refusal_with m' b' s room) (run_answer (call_problem m' b' s)) (length (run_card_with m' b' s))
      ≡ filing (write_refusal_with m b s room) (run_answer (call_problem m b s)) (length (run_card_with m b s))
  pub left : (output : List ℕ) →
      slots_after (write_refusal_with m' b' s (length output)) (run_card_with m' b' s) output ≡ slots_after (write_refusal_with m b s (length output)) (run_card_with m b s) output

-- of an outcome of a call and the buffer that it leaves
pub record FilingRightWith (m : Terms) (b s : List ℕ) (r : Written) (output : List ℕ) : Type 0 where
  -- its number is that of the first test that fails, 0 where none does
  pub number : writing_number r ≡ write_refusal_with m b s (length output)
  -- a refusal is never the number 0
  pub refused : (n : ℕ) → r ≡ Refused n → 1 ≤ n
  -- a card that was filed is in the first bytes, as many as are given back
  pub filed : (a : Answer) (size : ℕ) → r ≡ Filed a size → FiledRightWith m b s a (take (written_size r) output)
  -- a sheet of the other edition that asks for the same, every factor 1, is refused by the same number and has the same run and card
  pub editions : (s' : List ℕ) → Editions s s' →
      (write_refusal_with m b s' (length output) ≡ write_refusal_with m b s (length output)) × ((call_problem m b s' ≡ call_problem m b s) × (run_card_with m b s' ≡ run_card_with m b s))
  -- front text is never read: files that differ from these in front text alone are refused by the same number and have the same run and card
  pub fronts : (b' s' : List ℕ) → SameBook b b' → SameSheet s s' →
      (write_refusal_with m b' s' (length output) ≡ write_refusal_with m b s (length output)) × ((call_problem m b' s' ≡ call_problem m b s) × (run_card_with m b' s' ≡ run_card_with m b s))
  -- with a table that counts 1, 2, 3, .. the refusal, the answer and the card are those without it
  pub counted : Counts m s →
      (write_refusal_with m b s (length output) ≡ write_refusal_with (without_table m) b s (length output))
      × (write_refusal_with (without_table m) b s (length output) ≡ 0 →
      (run_answer (call_problem m b s) ≡ run_answer (call_problem (without_table m) b s)) × (run_card_with m b s ≡ run_card_with (without_table m) b s))
  -- isolation: whatever the other rows of the book are, the call gives the same back and writes the same bytes, refusals included
  pub isolated : (b' : List ℕ) → book_refusal b ≡ 0 → book_refusal b' ≡ 0 → SameReleased m.released b b' → SameFiling m m b b' s
  -- a set of all boats of the book changes nothing
  pub all_boats : AllBoats m.released (boats b) → SameFiling m (without_set m) b b s

-- ---- With the files alone

abbrev pub ReadsBack : (b s card : List ℕ) → (a : Answer) → (qs : List ℕ) → Type 0
ReadsBack b s card a qs = ReadsBackWith plain_terms b s card a qs

abbrev pub FiledRight : (b s : List ℕ) → (a : Answer) → (card : List ℕ) → Type 0
FiledRight b s a card = FiledRightWith plain_terms b s a card

abbrev pub FilingRight : (b s : List ℕ) → (r : Written) → (output : List ℕ) → Type 0
FilingRight b s r output = FilingRightWith plain_terms b s r output
