-- Front text is never read, whether a card is accepted or refused: a card, a book and a sheet that differ in front text alone from others
-- have the same refusal, shares and answer. Definitions only.
use Rattle.std.specs.Prelude.{◌≡◌, List, ℕ, ◌+◌, ◌≤◌, length}
use Rattle.files.specs.Book.{boats}
use Rattle.files.specs.Front.{SameBehind, SameBook, SameSheet}
use Rattle.method.specs.Problem.{Terms, plain_terms}
use Rattle.card_format.specs.Format.{card_fields, card_shares, card_answer_with}
use Rattle.card_format.specs.Checks.{card_refusal_with, check_refusal_with}

-- as many bytes as its back count says stand before its trailer
abbrev pub CardWhole : (card : List ℕ) → Type 0
CardWhole w = (card_fields w).back + 36 ≤ length w

-- cards that differ in front text alone
abbrev pub SameCard : List ℕ → List ℕ → Type 0
SameCard w w' = SameBehind CardWhole w w'

-- what the check of a card goes by is the same of another
pub record CardsAlikeWith (m : Terms) (b s w b' s' w' : List ℕ) : Type 0 where
  pub refusal : card_refusal_with m b' s' w' ≡ card_refusal_with m b s w
  pub check : (slots : ℕ) → check_refusal_with m b' s' w' slots ≡ check_refusal_with m b s w slots
  pub boats : boats b' ≡ boats b
  pub shares : (n : ℕ) → card_shares n w' ≡ card_shares n w
  pub answer : card_answer_with m b' s' w' ≡ card_answer_with m b s w

-- with the files alone
abbrev pub CardsAlike : (b s w b' s' w' : List ℕ) → Type 0
CardsAlike b s w b' s' w' = CardsAlikeWith plain_terms b s w b' s' w'

unfoldable pub CardFrontUnread : Type 0
CardFrontUnread = (m : Terms) (b s w b' s' w' : List ℕ) → SameBook b b' → SameSheet s s' → SameCard w w' → CardsAlikeWith m b s w b' s' w'
