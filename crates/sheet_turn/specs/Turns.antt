-- The files that the steps of a sheet are taken on, and the shares and scores between two turns. Assumes nothing.
use Rattle.std.specs.Prelude.{◌≡◌, cond, List, ℕ, ◌≤◌, length, take, ℤ}
use Rattle.files.specs.Book.{boats}
use Rattle.files.specs.Sheet.{sheet}
use Rattle.factors.specs.Factors.{all_ones}
use Rattle.derived_files.specs.Accepted.{twin_book, twin_sheet}
use Rattle.method.specs.Problem.{fixed, problem}
use Rattle.method.specs.Iterates.{iterate}
use Rattle.run_loop.specs.Runs.{ScoresAt}

-- the book and the sheet themselves where every factor is 1, else those in which each column stands as often as its factor says
unfoldable pub plain_book : (book sheet : List ℕ) → List ℕ
plain_book b s = cond (all_ones (sheet s).factors) b (twin_book b s)

unfoldable pub plain_sheet : (sheet : List ℕ) → List ℕ
plain_sheet s = cond (all_ones (sheet s).factors) s (twin_sheet s)

-- the first slots are the shares of the iterate after t steps, one a boat
pub record TurnShares (b s : List ℕ) (t : ℕ) (qs : List ℕ) : Type 0 where
  pub room : boats b ≤ length qs
  pub are : take (boats b) qs ≡ (iterate (problem b s) t).shares

-- the first slots are the scores under the residual after t steps, one a boat
abbrev pub TurnScores : (b s : List ℕ) → (t : ℕ) → List ℤ → Type 0
TurnScores b s t ps = ScoresAt fixed (plain_book b s) (plain_sheet s) t ps
