-- The listing of a card, and the card that a search leaves. Definitions only. Assumes nothing.
use Rattle.std.specs.Prelude.{cond, List, [], ℕ, eqb, length, Result, Ok, Err}
use Rattle.refusals.specs.declared.Refusal.{Refusal}
use Rattle.files.specs.Book.{boats}
use Rattle.files.specs.Sheet.{files_refusal}
use Rattle.method.specs.Searched.{Searched}
use Rattle.method.specs.Problem.{problem}
use Rattle.method.specs.Answers.{outcome, run_answer}
use Rattle.card_format.specs.Format.{card_shares, card_answer, run_card}
use Rattle.card_format.specs.Checks.{check_refusal}
use Rattle.card_format.specs.Written.{Written}
use Rattle.card_format.specs.Filing.{filing}
use Rattle.listing.specs.Lines.{outcome_listing}

-- what the check gives back: a card's answer, or the number that refuses the files or the card; a list of 256 slots is long enough for any book
abbrev pub card_outcome : (book sheet card : List ℕ) → Searched
card_outcome b s w = outcome (check_refusal b s w 256) (card_answer b s w)

-- the listing of that and of the card's shares
unfoldable pub card_listing : (book sheet card : List ℕ) → List ℕ
card_listing b s w = outcome_listing b s (card_outcome b s w) (card_shares (boats b) w)

-- what the writer gives back: the number that refuses the files, or the run's answer and its card's length; a buffer of 1,060 bytes is long
-- enough for any card
abbrev pub search_filing : (book sheet : List ℕ) → Written
search_filing b s = filing (files_refusal b s) (run_answer (problem b s)) (length (run_card b s))

-- the card of a search: no bytes where the files are refused
unfoldable pub search_card : (book sheet : List ℕ) → List ℕ
search_card b s = cond (eqb (files_refusal b s) 0) (run_card b s) []

-- how many bytes are to be filed: none where the files are refused
abbrev pub filed_size : Result ℕ Refusal → ℕ
filed_size (Ok n) = n
filed_size (Err r) = 0
