-- What the functions that put a sheet are given: a CSV whose rows have no fault, and where each of the fleet's columns stands in it.
use Rattle.std.specs.Prelude.{◌≡◌, List, ℕ, ◌≤◌, ◌<◌, length, get_or}
use Rattle.csv_sheet_rows.specs.Rows.{sheet_names, rows_fault}

pub record Ready (ps csv : List ℕ) : Type 0 where
  pub short : length csv ≤ 39000
  pub faultless : (rows_fault csv).fault ≡ 0
  pub some : 1 ≤ length ps
  pub few : length ps ≤ 64
  pub first : (i : ℕ) → i < length ps → 1 ≤ get_or ps i 0
  pub last : (i : ℕ) → i < length ps → get_or ps i 0 ≤ sheet_names csv
