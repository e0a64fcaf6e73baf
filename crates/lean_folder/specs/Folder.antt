-- What the work of a report in a folder gives, whatever the system reads there. Definitions only.
use Rattle.std.specs.Prelude.{◌≡◌, List, [], ◌++◌, ℕ, length}
use Rattle.text.specs.declared.Text.{Text}
use Rattle.leaning.specs.Report.{Pair}
use Rattle.leaning.specs.Slots.{Checked, AddsPair}
use Rattle.leaning.specs.Promise.{Reports}

-- a pair was read, and is checked as one of the report
pub record SomePair (b : List ℕ) (before : ℕ) (old : List ℕ) (refusal : ℕ) (new : List ℕ) : Type 0 where
  pub pair : Pair
  pub adds : AddsPair b pair before old refusal new

-- of some pairs, `cards` of them, the first were checked one by one, all unless one was refused
pub record SomeChecked (b : List ℕ) (cards refusal : ℕ) (slots : List ℕ) : Type 0 where
  pub pairs : List Pair
  pub rest : List Pair
  pub number : length (pairs ++ rest) ≡ cards
  pub all : refusal ≡ 0 → rest ≡ []
  pub checked : Checked b cards pairs refusal slots

-- a text is the report of the book and of as many pairs
pub record SomeReport (b : List ℕ) (cards : ℕ) (t : Text) : Type 0 where
  pub pairs : List Pair
  pub number : length pairs ≡ cards
  pub report : Reports b pairs t
