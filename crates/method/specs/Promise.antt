-- What the search promises of its outcome, on every input: one record for a run, and what a refusal is. Definitions only.
use Rattle.std.specs.Prelude.{◌≡◌, List, ℕ, suc, ◌≤◌, ◌<◌, length, get_or, take}
use Rattle.files.specs.Book.{boats, book_refusal}
use Rattle.files.specs.Sheet.{sheet}
use Rattle.files.specs.Editions.{Editions}
use Rattle.files.specs.Front.{SameBook, SameSheet}
use Rattle.method.specs.declared.Answer.{Answer}
use Rattle.method.specs.Searched.{Searched}
use Rattle.method.specs.Searched.{Refused, Answered}
use Rattle.method.specs.ReleasedBoats.{every, gather}
use Rattle.method.specs.Problem.{fixed, lent, Problem, Terms, plain_terms, fleet_problem, call_problem}
use Rattle.method.specs.Calls.{table_refusal}
use Rattle.method.specs.Answers.{refusal_number, outcome, run_answer, run_iterate, search_refusal_with, run_slots, slots_after}
use Rattle.method.specs.Bounds.{RunBounds}
use Rattle.method.specs.PublishedRun.{PublishedRun}
use Rattle.method.specs.SmallGap.{SmallGap}
use Rattle.method.specs.BookNumbers.{ReleasedRun, SameReleased, AllBoats}

-- of the answer and the shares of a problem
pub record RunRight (p : Problem) (a : Answer) (shares : List ℕ) : Type 0 where
  -- steps, shares and numbers, how near any mixture can come, and what the verdict means
  pub bounds : RunBounds p a shares
  -- after each step they are those of the published method
  pub published : PublishedRun p a shares
  -- how small the gap gets within any number k of steps, with the shares 1, 2, 3, ..
  pub small_gap : p.schedule ≡ fixed → (k : ℕ) → 2 ≤ k → SmallGap p k

-- the lent table counts 1, 2, 3, .. as far as the sheet asks for steps; what stands behind is any that is accepted
pub record Counts (m : Terms) (s : List ℕ) : Type 0 where
  pub table : List ℕ
  pub is_lent : m.schedule ≡ lent table
  pub accepted : table_refusal table ≡ 0
  pub long : (sheet s).steps ≤ length table
  pub counts : (k : ℕ) → k < (sheet s).steps → get_or table k 0 ≡ suc k

-- the same terms without the table, and without the set
abbrev pub without_table : Terms → Terms
without_table m = record { schedule = fixed; released = m.released }

abbrev pub without_set : Terms → Terms
without_set m = record { schedule = m.schedule; released = every }

-- with other terms and another book, a call gives the same back and leaves every list that is lent the same
pub record SameSearch (m m' : Terms) (b b' s : List ℕ) : Type 0 where
  pub given : (slots : ℕ) → outcome (search_refusal_with m' b' s slots) (run_answer (call_problem m' b' s)) ≡ outcome (search_refusal_with m b s slots) (run_answer (call_problem m b s))
  pub left : (slots : List ℕ) →
      slots_after (search_refusal_with m' b' s (length slots)) (run_slots m' b' s) slots ≡ slots_after (search_refusal_with m b s (length slots)) (run_slots m b s) slots

-- of an outcome of a call and the share list that it leaves
pub record OutcomeRightWith (m : Terms) (b s : List ℕ) (r : Searched) (slots : List ℕ) : Type 0 where
  -- its number is that of the first test that fails, 0 where none does
  pub number : refusal_number r ≡ search_refusal_with m b s (length slots)
  -- a refusal is never the number 0
  pub refused : (n : ℕ) → r ≡ Refused n → 1 ≤ n
  -- the shares of a run are in the first slots, one a boat: those of the boats that may be used are the run's
  pub answered : (a : Answer) → r ≡ Answered a → RunRight (call_problem m b s) a (gather m.released (take (boats b) slots))
  -- by the numbers of the book: the other boats' slots are 0, and no mixture of its boats that rests on released ones comes nearer than bounded
  pub in_book : (a : Answer) → r ≡ Answered a → ReleasedRun m.released (fleet_problem m b s) a (take (boats b) slots)
  -- a sheet of the other edition that asks for the same, every factor 1, is refused by the same number and is the same problem
  pub editions : (s' : List ℕ) → Editions s s' →
      (search_refusal_with m b s' (length slots) ≡ search_refusal_with m b s (length slots)) × (call_problem m b s' ≡ call_problem m b s)
  -- front text is never read: files that differ from these in front text alone are refused by the same number and are the same problem
  pub fronts : (b' s' : List ℕ) → SameBook b b' → SameSheet s s' →
      (search_refusal_with m b' s' (length slots) ≡ search_refusal_with m b s (length slots)) × (call_problem m b' s' ≡ call_problem m b s)
  -- with a table that counts 1, 2, 3, .. the refusal, the answer and the shares are those without it
  pub counted : Counts m s →
      (search_refusal_with m b s (length slots) ≡ search_refusal_with (without_table m) b s (length slots))
      × (search_refusal_with (without_table m) b s (length slots) ≡ 0 →
      (run_answer (call_problem m b s) ≡ run_answer (call_problem (without_table m) b s)) × (run_iterate (call_problem m b s) ≡ run_iterate (call_problem (without_table m) b s)))
  -- isolation: whatever the other rows of the book are, the call gives the same back and leaves the same, refusals included
  pub isolated : (b' : List ℕ) → book_refusal b ≡ 0 → book_refusal b' ≡ 0 → SameReleased m.released b b' → SameSearch m m b b' s
  -- a set of all boats of the book changes nothing
  pub all_boats : AllBoats m.released (boats b) → SameSearch m (without_set m) b b s

-- of an outcome of the files alone
abbrev pub OutcomeRight : (b s : List ℕ) → (r : Searched) → (slots : List ℕ) → Type 0
OutcomeRight b s r slots = OutcomeRightWith plain_terms b s r slots
