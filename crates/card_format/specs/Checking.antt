-- What the card check gives back and leaves in its share list. Definitions only.
use Rattle.std.specs.Prelude.{◌≡◌, ◌↔◌, List, ℕ, ◌≤◌, length, take}
use Rattle.files.specs.Book.{boats, book_refusal}
use Rattle.files.specs.Editions.{Editions}
use Rattle.files.specs.Front.{SameBook, SameSheet}
use Rattle.method.specs.declared.Answer.{Answer}
use Rattle.method.specs.Searched.{Searched}
use Rattle.method.specs.Searched.{Refused, Answered}
use Rattle.method.specs.Problem.{Terms, plain_terms}
use Rattle.method.specs.Answers.{refusal_number, outcome, search_refusal_with, slots_after}
use Rattle.method.specs.BookNumbers.{SameReleased, AllBoats}
use Rattle.method.specs.Promise.{Counts, without_table, without_set}
use Rattle.card_format.specs.Format.{card_shares, card_answer_with}
use Rattle.card_format.specs.Checks.{check_refusal_with}
use Rattle.card_format.specs.Truth.{CardTrueWith, FiledBeforeWith, CardVouchesWith}
use Rattle.card_format.specs.Front.{SameCard, CardsAlikeWith}

-- with other terms and another book, a call with this card gives the same back and leaves every list that is lent the same
pub record SameCheck (m m' : Terms) (b b' s w : List ℕ) : Type 0 where
  pub given : (slots : ℕ) → outcome (check_refusal_with m' b' s w slots) (card_answer_with m' b' s w) ≡ outcome (check_refusal_with m b s w slots) (card_answer_with m b s w)
  pub left : (slots : List ℕ) →
      slots_after (check_refusal_with m' b' s w (length slots)) (card_shares (boats b') w) slots ≡ slots_after (check_refusal_with m b s w (length slots)) (card_shares (boats b) w) slots

-- of an outcome of a call and the share list that it leaves
pub record CheckRightWith (m : Terms) (b s w : List ℕ) (r : Searched) (slots : List ℕ) : Type 0 where
  -- its number is that of the first test that fails, 0 where none does
  pub number : refusal_number r ≡ check_refusal_with m b s w (length slots)
  -- a refusal is never the number 0
  pub refused : (n : ℕ) → r ≡ Refused n → 1 ≤ n
  -- where terms, book, sheet and share list serve, the card is accepted exactly when it is true
  pub exactly : search_refusal_with m b s (length slots) ≡ 0 → (refusal_number r ≡ 0) ↔ CardTrueWith m b s w
  -- so a card that was filed before WCD2, by a run that the former test judged, is still accepted
  pub filed_before : search_refusal_with m b s (length slots) ≡ 0 → FiledBeforeWith m b s w → refusal_number r ≡ 0
  -- an accepted card vouches for its answer, its shares in the first slots, one a boat
  pub answered : (a : Answer) → r ≡ Answered a → CardVouchesWith m b s w a (take (boats b) slots)
  -- for a sheet of the other edition that asks for the same, every factor 1, the card is refused by the same number and has the same answer
  pub editions : (s' : List ℕ) → Editions s s' →
      (check_refusal_with m b s' w (length slots) ≡ check_refusal_with m b s w (length slots)) × (card_answer_with m b s' w ≡ card_answer_with m b s w)
  -- front text is never read: a card, a book and a sheet that differ from these in front text alone have the same refusal, shares and answer
  pub fronts : (b' s' w' : List ℕ) → SameBook b b' → SameSheet s s' → SameCard w w' → CardsAlikeWith m b s w b' s' w'
  -- with a table that counts 1, 2, 3, .. the refusal and the answer are those without it
  pub counted : Counts m s →
      (check_refusal_with m b s w (length slots) ≡ check_refusal_with (without_table m) b s w (length slots))
      × (check_refusal_with (without_table m) b s w (length slots) ≡ 0 → card_answer_with m b s w ≡ card_answer_with (without_table m) b s w)
  -- isolation: whatever the other rows of the book are, the call gives the same back and leaves the same, refusals included
  pub isolated : (b' : List ℕ) → book_refusal b ≡ 0 → book_refusal b' ≡ 0 → SameReleased m.released b b' → SameCheck m m b b' s w
  -- a set of all boats of the book changes nothing
  pub all_boats : AllBoats m.released (boats b) → SameCheck m (without_set m) b b s w

-- with the files alone
abbrev pub CheckRight : (b s w : List ℕ) → (r : Searched) → (slots : List ℕ) → Type 0
CheckRight b s w r slots = CheckRightWith plain_terms b s w r slots
