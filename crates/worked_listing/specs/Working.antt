-- The listing of a Spent run that is worked over, with all boats of the book. Definitions only. Assumes nothing.
use Rattle.std.specs.Prelude.{◌≡◌, List, ℕ, length, take}
use Rattle.files.specs.Sheet.{files_refusal}
use Rattle.method.specs.declared.Answer.{Answer}
use Rattle.method.specs.Problem.{plain_terms, problem}
use Rattle.method.specs.Answers.{outcome}
use Rattle.card_format.specs.Written.{Written}
use Rattle.card_format.specs.Written.{Refused, Filed}
use Rattle.card_format.specs.Filing.{filing}
use Rattle.card_format.specs.Format.{card_limit}
use Rattle.pairwise.specs.Moves.{worked_answer}
use Rattle.pairwise.specs.Call.{worked_slots, worked_card, work_refusal}
use Rattle.listing.specs.Lines.{refused_line, outcome_listing}
use Rattle.card_listing.specs.Cards.{card_listing}

-- the number that refuses the call, 0 where none does; a buffer of 1,060 bytes is long enough for any card
abbrev pub work_number : (book sheet : List ℕ) → (moves : ℕ) → ℕ
work_number b s n = work_refusal plain_terms b s n card_limit

-- what the call gives back
abbrev pub work_filing : (book sheet : List ℕ) → (moves : ℕ) → Written
work_filing b s n = filing (work_number b s n) (worked_answer (problem b s) n) (length (worked_card plain_terms b s n))

-- the listing of the result and its shares, or of the number that refuses
unfoldable pub working_listing : (book sheet : List ℕ) → (moves : ℕ) → List ℕ
working_listing b s n = outcome_listing b s (outcome (work_number b s n) (worked_answer (problem b s) n)) (worked_slots plain_terms b s n)

-- of what a writer gave back and left in its buffer: the number that refuses, or the card that it wrote
unfoldable pub written_listing : (book sheet : List ℕ) → Written → (buffer : List ℕ) → List ℕ
written_listing b s (Refused k) buffer = refused_line k
written_listing b s (Filed a size) buffer = card_listing b s (take size buffer)

-- a writer that filed a card had files that serve
abbrev pub Served : (book sheet : List ℕ) → Written → Type 0
Served b s w = (a : Answer) (size : ℕ) → w ≡ Filed a size → files_refusal b s ≡ 0
