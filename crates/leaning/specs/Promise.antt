-- What is promised of a report of the boats that cards rest on. Definitions only.
use Rattle.std.specs.Prelude.{◌≡◌, List, [], ◌++◌, ℕ, ◌+◌, ◌≤◌, ◌<◌, length, take, drop}
use Rattle.frank_wolfe.specs.Vectors.{sum}
use Rattle.files.specs.Book.{boats}
use Rattle.text.specs.declared.Text.{Text}
use Rattle.text.specs.Texts.{Holds}
use Rattle.leaning.specs.Report.{Pair, lean_refusal, shares_of, cards_on, counts, entries, most_used, stretch, lean_listing}
use Rattle.leaning.specs.Slots.{Checked}

-- the most bytes of a report
abbrev pub report_limit : ℕ
report_limit = 3879

-- a boat of the book that no fewer of some cards rest on than on any other, and more than on every lower-numbered one
pub record Leads (boats : ℕ) (cards : List (List ℕ)) (boat : ℕ) : Type 0 where
  pub of_the_book : boat < boats
  pub most : (i : ℕ) → i < boats → cards_on i cards ≤ cards_on boat cards
  pub lowest : (i : ℕ) → i < boat → cards_on i cards < cards_on boat cards

-- of the report of a book and pairs that are not refused
pub record LeanRight (b : List ℕ) (ps : List Pair) : Type 0 where
  -- the counts of the boats add up to the total, the entries in the bodies of all cards
  pub total : sum (counts (boats b) (shares_of b ps)) ≡ entries ps
  -- 1 to 64 cards
  pub some_card : 1 ≤ length ps
  pub few_cards : length ps ≤ 64
  -- the boat in the line of cards i + 1 to i + 12 leads them
  pub stretches : (i : ℕ) → i + 12 ≤ length ps → Leads (boats b) (take 12 (drop i (shares_of b ps))) (most_used (boats b) (stretch i (shares_of b ps)))
  -- the lines are no longer than a text
  pub short : length (lean_listing b ps) ≤ report_limit

-- a text is the report of a book and some pairs, and what it says is right
pub record Reports (b : List ℕ) (ps : List Pair) (t : Text) : Type 0 where
  pub text : Holds (lean_listing b ps) t
  pub right : lean_refusal b ps ≡ 0 → LeanRight b ps

-- a text is the report of any pairs, `cards` of them, of which the first were checked one by one, all unless one was refused
abbrev pub ReportsChecked : (b : List ℕ) → (refusal cards : ℕ) → (slots : List ℕ) → Text → Type 0
ReportsChecked b r n slots t =
    (ps rest : List Pair) → Checked b n ps r slots → length (ps ++ rest) ≡ n → (r ≡ 0 → rest ≡ []) → Reports b (ps ++ rest) t
