-- A call that works a Spent run over: what refuses it, the card that it writes, and what is promised of its outcome. The call has a released
-- set or none, and no table. n is the number of moves allowed. Definitions only.
use Rattle.std.specs.Prelude.{◌≡◌, cond, List, ◌++◌, ℕ, ◌+◌, ◌≤◌, ltb, length, get_or, take}
use Rattle.files.specs.Book.{boats, columns, book_refusal}
use Rattle.files.specs.Sheet.{sheet}
use Rattle.files.specs.Editions.{Editions}
use Rattle.files.specs.Front.{SameBook, SameSheet}
use Rattle.files.specs.Limits.{file_limit}
use Rattle.method.specs.declared.Test.TheVariants.{Sharper}
use Rattle.method.specs.declared.Answer.{Answer}
use Rattle.method.specs.declared.Released.{Released}
use Rattle.method.specs.ReleasedBoats.{usable, gather, scatter}
use Rattle.method.specs.Problem.{fixed, Terms, fleet_problem, call_problem}
use Rattle.method.specs.Calls.{before, call_refusal}
use Rattle.method.specs.Answers.{run_slots, slots_after}
use Rattle.method.specs.BookNumbers.{ReleasedRun, SameReleased, AllBoats}
use Rattle.method.specs.Promise.{without_set}
use Rattle.card_format.specs.Written.{Written}
use Rattle.card_format.specs.Written.{Refused, Filed}
use Rattle.card_format.specs.Format.{card_limit, card_bytes, card_shares}
use Rattle.card_format.specs.Filing.{writing_number, written_size, filing, ReadsBackWith}
use Rattle.pairwise.specs.Moves.{moves_refusal, worked_shares, worked_answer}
use Rattle.pairwise.specs.Worked.{WorkedRight}

-- step k gives k shares, and the set counts only where the call is limited to it
abbrev pub set_terms : Released → Terms
set_terms r = record { schedule = fixed; released = usable r }

-- ---- The card

-- the shares of the result in the slots of the book's boats: 0 for a boat that may not be used
abbrev pub worked_slots : Terms → (book sheet : List ℕ) → (n : ℕ) → List ℕ
worked_slots m b s n = scatter m.released (boats b) (worked_shares (call_problem m b s) n)

-- boats are numbered as in the book
unfoldable pub worked_card : Terms → (book sheet : List ℕ) → (n : ℕ) → List ℕ
worked_card m b s n = card_bytes Sharper (worked_answer (call_problem m b s) n) (worked_slots m b s n) (sheet s).tolerance (boats b) (columns b)

-- ---- The refusals

-- 1 to 6 of the book, 52 of the set, 11 to 17 and 46 of the sheet; 53 and 54 of the run and the moves; then 22: a buffer shorter than the final card
unfoldable pub work_refusal : Terms → (book sheet : List ℕ) → (n room : ℕ) → ℕ
work_refusal m b s n room =
    before (call_refusal m b s) (before (moves_refusal (call_problem m b s) n) (cond (ltb room (length (worked_card m b s n))) 22 0))

-- ---- The promise

-- of an answer that was filed, and the bytes that were written
pub record WorkedFiled (m : Terms) (b s : List ℕ) (n : ℕ) (a : Answer) (card : List ℕ) : Type 0 where
  pub card_is : card ≡ worked_card m b s n
  -- the check under the same set accepts them, and they read back as the answer given back and the shares of the result
  pub reads_back : ReadsBackWith m b s card a (worked_slots m b s n)
  -- also behind any front text that keeps within 40,000 bytes
  pub behind_front : (front : List ℕ) → length front + length card ≤ file_limit → ReadsBackWith m b s (front ++ card) a (worked_slots m b s n)
  pub short : length card ≤ card_limit
  -- the moves, the shares, E, G and the verdict are right
  pub right : WorkedRight (call_problem m b s) n a (gather m.released (card_shares (boats b) card))
  -- by the numbers of the book: other boats hold no shares, and the gap bound, the step bound and the verdicts are of any mixture of its boats that rests on released ones
  pub in_book : ReleasedRun m.released (fleet_problem m b s) a (card_shares (boats b) card)
  -- no boat of the book joins
  pub none_joins : (i : ℕ) → get_or (run_slots m b s) i 0 ≡ 0 → get_or (card_shares (boats b) card) i 0 ≡ 0

-- with other terms and another book, a call gives the same back and leaves every buffer the same
pub record SameWorking (m m' : Terms) (b b' s : List ℕ) : Type 0 where
  pub given : (n room : ℕ) →
      filing (work_refusal m' b' s n room) (worked_answer (call_problem m' b' s) n) (length (worked_card m' b' s n))
      ≡ filing (work_refusal m b s n room) (worked_answer (call_problem m b s) n) (length (worked_card m b s n))
  pub left : (n : ℕ) (output : List ℕ) →
      slots_after (work_refusal m' b' s n (length output)) (worked_card m' b' s n) output ≡ slots_after (work_refusal m b s n (length output)) (worked_card m b s n) output

-- of an outcome of a call and the buffer that it leaves
pub record WorkingRight (m : Terms) (b s : List ℕ) (n : ℕ) (r : Written) (output : List ℕ) : Type 0 where
  -- its number is that of the first test that fails, 0 where none does
  pub number : writing_number r ≡ work_refusal m b s n (length output)
  -- a refusal is never the number 0
  pub refused : (k : ℕ) → r ≡ Refused k → 1 ≤ k
  -- a card that was filed is in the first bytes, as many as are given back
  pub filed : (a : Answer) (size : ℕ) → r ≡ Filed a size → WorkedFiled m b s n a (take (written_size r) output)
  -- a sheet of the other edition that asks for the same, every factor 1, is refused by the same number and has the same result and card
  pub editions : (s' : List ℕ) → Editions s s' →
      (work_refusal m b s' n (length output) ≡ work_refusal m b s n (length output)) × ((call_problem m b s' ≡ call_problem m b s) × (worked_card m b s' n ≡ worked_card m b s n))
  -- front text is never read
  pub fronts : (b' s' : List ℕ) → SameBook b b' → SameSheet s s' →
      (work_refusal m b' s' n (length output) ≡ work_refusal m b s n (length output)) × ((call_problem m b' s' ≡ call_problem m b s) × (worked_card m b' s' n ≡ worked_card m b s n))
  -- isolation: whatever the other rows of the book are, the call gives the same back and writes the same bytes, refusals included
  pub isolated : (b' : List ℕ) → book_refusal b ≡ 0 → book_refusal b' ≡ 0 → SameReleased m.released b b' → SameWorking m m b b' s
  -- a set of all boats of the book changes nothing
  pub all_boats : AllBoats m.released (boats b) → SameWorking m (without_set m) b b s

-- ---- The statement

-- the outcome and the buffer that these equations give keep the promise
unfoldable pub CallRight : Type 0
CallRight =
    (m : Terms) (b s : List ℕ) (n : ℕ) (output : List ℕ) →
    WorkingRight m b s n (filing (work_refusal m b s n (length output)) (worked_answer (call_problem m b s) n) (length (worked_card m b s n)))
    (slots_after (work_refusal m b s n (length output)) (worked_card m b s n) output)
