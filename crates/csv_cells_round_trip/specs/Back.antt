-- Rows of fields that are written as CSV read back: the same fields in the same places, for any bytes.
use Rattle.std.specs.Prelude.{◌≡◌, List, [], ℕ, ◌+◌, ◌≤◌, ◌<◌, length, get_or}
use Rattle.csv_fleet_round_trip.specs.Back.{All, UnitFits}
use Rattle.csv_cells.specs.Cells.{last_place, cell_text, line_of}
use Rattle.csv_cells_round_trip.specs.Writing.{rows_csv}

-- a row of 1 to 65 fields, each of at most 200 bytes, the first with at least one
pub record RowFits (row : List (List ℕ)) : Type 0 where
  pub some_fields : 1 ≤ length row
  pub most_fields : length row ≤ 65
  pub fields_fit : All UnitFits row
  pub first_filled : 1 ≤ length (get_or row 0 [])

-- what is read of a CSV has no fault and is these rows: a field that no row has is read as one without bytes, and row r stands in line r + 1
pub record ReadBack (rows : List (List (List ℕ))) (csv : List ℕ) : Type 0 where
  pub faultless : (last_place csv).fault ≡ 0
  pub rows_back : (last_place csv).row ≡ length rows
  pub cells_back : (r f : ℕ) → cell_text r f csv ≡ get_or (get_or rows r []) f []
  pub lines_back : (r : ℕ) → r < length rows → line_of r csv ≡ r + 1

unfoldable pub RowsReadBack : Type 0
RowsReadBack = (rows : List (List (List ℕ))) → All RowFits rows → ReadBack rows (rows_csv rows)
