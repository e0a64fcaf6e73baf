-- The listing of a search. Definitions only. Assumes nothing.
use Rattle.std.specs.Prelude.{List, ℕ}
use Rattle.files.specs.Sheet.{files_refusal}
use Rattle.method.specs.Searched.{Searched}
use Rattle.method.specs.Problem.{problem}
use Rattle.method.specs.Answers.{outcome, run_answer, run_iterate}
use Rattle.listing.specs.Lines.{outcome_listing}

-- what a search gives back where its share list is long enough: its answer, or the number that refuses the files
abbrev pub search_outcome : (book sheet : List ℕ) → Searched
search_outcome b s = outcome (files_refusal b s) (run_answer (problem b s))

-- the shares that it leaves, one a boat
abbrev pub search_shares : (book sheet : List ℕ) → List ℕ
search_shares b s = (run_iterate (problem b s)).shares

-- the listing of both
unfoldable pub search_listing : (book sheet : List ℕ) → List ℕ
search_listing b s = outcome_listing b s (search_outcome b s) (search_shares b s)
