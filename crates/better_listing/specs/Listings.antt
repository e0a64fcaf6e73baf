-- The listing of the better of two cards. Definitions only. Assumes nothing.
use Rattle.std.specs.Prelude.{cond, List, ℕ, eqb}
use Rattle.files.specs.Book.{boats}
use Rattle.method.specs.Answers.{outcome}
use Rattle.card_format.specs.Format.{card_shares, card_answer}
use Rattle.listing.specs.Lines.{refused_line, outcome_listing}
use Rattle.card_listing.specs.Cards.{card_listing}
use Rattle.better_card_promise.specs.Choices.{better_refusal, better}

-- of the better card's answer and shares, or of the number that refuses the files or a card
unfoldable pub better_listing : (book sheet first second : List ℕ) → List ℕ
better_listing b s x y =
    outcome_listing b s (outcome (better_refusal b s x y) (card_answer b s (better b s x y))) (card_shares (boats b) (better b s x y))

-- of one card that is not refused, or of a number that refuses
unfoldable pub part_listing : (book sheet card : List ℕ) → (refusal : ℕ) → List ℕ
part_listing b s w n = cond (eqb n 0) (card_listing b s w) (refused_line n)
