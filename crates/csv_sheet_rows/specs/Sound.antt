-- What the rows of a sheet's CSV have where they have no fault: how many there are, which stand there, the range of their numbers, and that the figures in the fields say them.
use Rattle.std.specs.Prelude.{◌≡◌, List, [], ◌⊎◌, ℕ, ◌≤◌, ℤ, pos}
use Rattle.files.specs.Limits.{step_limit}
use Rattle.csv_bytes.specs.Cells.{read, signed}
use Rattle.csv_numbers.specs.Numbers.{SaysValue}
use Rattle.csv_cells.specs.Cells.{cell_text}
use Rattle.csv_sheet_rows.specs.Kinds.{kind_at, row_of}
use Rattle.csv_sheet_rows.specs.Rows.{sheet_names, last_row, factor_row}

abbrev pub hull_row : List ℕ → ℕ
hull_row csv = row_of 0 (last_row csv) csv

abbrev pub steps_row : List ℕ → ℕ
steps_row csv = row_of 3 (last_row csv) csv

abbrev pub tolerance_row : List ℕ → ℕ
tolerance_row csv = row_of 4 (last_row csv) csv

-- the number in field f of row r, without its sign
abbrev pub magnitude_at : (r f : ℕ) → List ℕ → ℕ
magnitude_at r f csv = (read (cell_text r f csv)).magnitude

-- and with it
abbrev pub value_in : (r f : ℕ) → List ℕ → ℤ
value_in r f csv = signed (read (cell_text r f csv)).negative (read (cell_text r f csv)).magnitude

-- a value that is left open: no byte in its field, 0 as the value, and there is a row of factors, w, with 0 for its column
pub record LeftOpen (v : ℤ) (text : List ℕ) (w factor : ℕ) : Type 0 where
  pub no_text : text ≡ []
  pub value_none : v ≡ pos 0
  pub factors_there : w ≡ 0 → ⊥
  pub factor_none : factor ≡ 0

-- what a hull's field may have
abbrev pub SaidOrOpen : (v : ℤ) → (text : List ℕ) → (w factor : ℕ) → Type 0
SaidOrOpen v text w factor = SaysValue v text ⊎ LeftOpen v text w factor

pub record Sound (csv : List ℕ) : Type 0 where
  pub some_columns : 1 ≤ sheet_names csv
  pub few_columns : sheet_names csv ≤ 64
  pub few_rows : last_row csv ≤ 15
  -- the rows that must be there, and what they are
  pub hull_there : hull_row csv ≡ 0 → ⊥
  pub steps_there : steps_row csv ≡ 0 → ⊥
  pub tolerance_there : tolerance_row csv ≡ 0 → ⊥
  pub hull_kind : kind_at (hull_row csv) csv ≡ 0
  pub steps_kind : kind_at (steps_row csv) csv ≡ 3
  pub tolerance_kind : (kind_at (tolerance_row csv) csv ≡ 4) ⊎ (kind_at (tolerance_row csv) csv ≡ 5)
  -- their numbers
  pub values_fit : (f : ℕ) → 1 ≤ f → f ≤ sheet_names csv → magnitude_at (hull_row csv) f csv ≤ 2000
  pub factors_fit : (factor_row csv ≡ 0 → ⊥) → (f : ℕ) → 1 ≤ f → f ≤ sheet_names csv → magnitude_at (factor_row csv) f csv ≤ 64
  pub some_steps : 1 ≤ magnitude_at (steps_row csv) 1 csv
  pub few_steps : magnitude_at (steps_row csv) 1 csv ≤ step_limit
  pub tolerance_fits : kind_at (tolerance_row csv) csv ≡ 4 → magnitude_at (tolerance_row csv) 1 csv ≤ 1024000000
  pub each_fits : kind_at (tolerance_row csv) csv ≡ 5 → magnitude_at (tolerance_row csv) 1 csv ≤ 32000
  -- what the figures of their fields say
  pub values_said : (f : ℕ) → 1 ≤ f → f ≤ sheet_names csv →
      SaidOrOpen (value_in (hull_row csv) f csv) (cell_text (hull_row csv) f csv) (factor_row csv) (magnitude_at (factor_row csv) f csv)
  pub factors_said : (factor_row csv ≡ 0 → ⊥) → (f : ℕ) → 1 ≤ f → f ≤ sheet_names csv → SaysValue (pos (magnitude_at (factor_row csv) f csv)) (cell_text (factor_row csv) f csv)
  pub steps_said : SaysValue (pos (magnitude_at (steps_row csv) 1 csv)) (cell_text (steps_row csv) 1 csv)
  pub tolerance_said : SaysValue (pos (magnitude_at (tolerance_row csv) 1 csv)) (cell_text (tolerance_row csv) 1 csv)
