-- What it means that the columns of a sheet's CSV match those of a fleet's.
use Rattle.std.specs.Prelude.{◌≡◌, List, ℕ, ◌≤◌}
use Rattle.csv_cells.specs.Cells.{cell_text}
use Rattle.csv_column_match.specs.Match.{column_of, position, mismatch}

-- m columns of the fleet and n of the sheet: each of the fleet has its own column of the sheet, of the same name, and each of the sheet is that of one of the fleet
pub record Matched (m n : ℕ) (fleet csv : List ℕ) : Type 0 where
  pub first : (j : ℕ) → 1 ≤ j → j ≤ m → 1 ≤ position n j fleet csv
  pub last : (j : ℕ) → 1 ≤ j → j ≤ m → position n j fleet csv ≤ n
  pub same_name : (j : ℕ) → 1 ≤ j → j ≤ m → cell_text 0 (position n j fleet csv) csv ≡ cell_text 0 j fleet
  pub own : (j k : ℕ) → 1 ≤ j → j ≤ m → 1 ≤ k → k ≤ m → position n j fleet csv ≡ position n k fleet csv → j ≡ k
  pub some : (f : ℕ) → 1 ≤ f → f ≤ n → 1 ≤ column_of (cell_text 0 f csv) m fleet
  pub few : (f : ℕ) → 1 ≤ f → f ≤ n → column_of (cell_text 0 f csv) m fleet ≤ m
  pub each : (f : ℕ) → 1 ≤ f → f ≤ n → position n (column_of (cell_text 0 f csv) m fleet) fleet csv ≡ f

unfoldable pub WithoutMismatchMatched : Type 0
WithoutMismatchMatched = (m n : ℕ) (fleet csv : List ℕ) → (mismatch m n fleet csv).fault ≡ 0 → Matched m n fleet csv
