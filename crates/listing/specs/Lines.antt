-- The listing of an answer, line by line, as ASCII bytes. Definitions only. Assumes nothing.
use Rattle.std.specs.Prelude.{◌≡◌, Result, Ok, Err, List, [], ◌∷◌, ◌++◌, ℕ, zero, suc, take}
use Rattle.files.specs.Book.{boats, columns}
use Rattle.files.specs.Sheet.{sheet, files_refusal}
use Rattle.method.specs.declared.Verdict.{Verdict}
use Rattle.method.specs.declared.Verdict.TheVariants.{Within, Beyond, Spent}
use Rattle.method.specs.declared.Answer.{Answer}
use Rattle.method.specs.Searched.{Searched}
use Rattle.method.specs.Searched.{Refused, Answered}
use Rattle.text.specs.Lines.{number_line, pair_line}

-- ---- The words, each with the space after it

-- "fleet "
abbrev pub fleet_word : List ℕ
fleet_word = 102 ∷ 108 ∷ 101 ∷ 101 ∷ 116 ∷ 32 ∷ []

-- "sheet "
abbrev pub sheet_word : List ℕ
sheet_word = 115 ∷ 104 ∷ 101 ∷ 101 ∷ 116 ∷ 32 ∷ []

-- "within "
abbrev pub within_word : List ℕ
within_word = 119 ∷ 105 ∷ 116 ∷ 104 ∷ 105 ∷ 110 ∷ 32 ∷ []

-- "beyond "
abbrev pub beyond_word : List ℕ
beyond_word = 98 ∷ 101 ∷ 121 ∷ 111 ∷ 110 ∷ 100 ∷ 32 ∷ []

-- "spent "
abbrev pub spent_word : List ℕ
spent_word = 115 ∷ 112 ∷ 101 ∷ 110 ∷ 116 ∷ 32 ∷ []

-- "distance "
abbrev pub distance_word : List ℕ
distance_word = 100 ∷ 105 ∷ 115 ∷ 116 ∷ 97 ∷ 110 ∷ 99 ∷ 101 ∷ 32 ∷ []

-- "gap "
abbrev pub gap_word : List ℕ
gap_word = 103 ∷ 97 ∷ 112 ∷ 32 ∷ []

-- "boat "
abbrev pub boat_word : List ℕ
boat_word = 98 ∷ 111 ∷ 97 ∷ 116 ∷ 32 ∷ []

-- "refused "
abbrev pub refused_word : List ℕ
refused_word = 114 ∷ 101 ∷ 102 ∷ 117 ∷ 115 ∷ 101 ∷ 100 ∷ 32 ∷ []

-- ---- Lines

unfoldable pub verdict_word : Verdict → List ℕ
verdict_word Within = within_word
verdict_word (Beyond floor) = beyond_word
verdict_word (Spent shortfall) = spent_word

-- a boat and its shares; no line for a boat without shares
unfoldable pub boat_line : (boat share : ℕ) → List ℕ
boat_line i zero = []
boat_line i (suc q) = pair_line boat_word i (suc q)

-- the lines of the boats from a number on, ascending
unfoldable pub boat_lines : (first : ℕ) → (shares : List ℕ) → List ℕ
boat_lines i [] = []
boat_lines i (q ∷ qs) = boat_line i q ++ boat_lines (suc i) qs

-- ---- Listings

-- boats and columns; tolerance and steps; verdict, steps used and W; E; G
unfoldable pub head_lines : (boats columns tolerance steps : ℕ) → Answer → List ℕ
head_lines n c tolerance steps a =
    pair_line fleet_word n c ++ (pair_line sheet_word tolerance steps ++ (pair_line (verdict_word a.verdict) a.steps a.weight ++ (number_line distance_word a.distance ++ number_line gap_word a.gap)))

unfoldable pub listing_of : (boats columns tolerance steps : ℕ) → Answer → (shares : List ℕ) → List ℕ
listing_of n c tolerance steps a shares = head_lines n c tolerance steps a ++ boat_lines 0 shares

abbrev pub refused_line : (refusal : ℕ) → List ℕ
refused_line n = number_line refused_word n

-- of what a search or a card check of a fleet book and a sheet gives back, with the share list it leaves
unfoldable pub outcome_listing : (book sheet : List ℕ) → Searched → (slots : List ℕ) → List ℕ
outcome_listing b s (Refused n) slots = refused_line n
outcome_listing b s (Answered a) slots = listing_of (boats b) (columns b) (sheet s).tolerance (sheet s).steps a (take (boats b) slots)

-- that an answer is of files that are not refused
unfoldable pub Listable : (book sheet : List ℕ) → Searched → Type 0
Listable b s (Refused n) = Prim.Unit {0}
Listable b s (Answered a) = files_refusal b s ≡ 0

-- the number of an error that is a number, 0 where there is none
abbrev pub error_number : {value : Type 0} → Result value ℕ → ℕ
error_number (Ok x) = 0
error_number (Err n) = n
