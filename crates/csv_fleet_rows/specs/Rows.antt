-- The rows of a fleet read from a CSV, and what holds of a CSV without fault.
use Rattle.std.specs.Prelude.{◌≡◌, true, List, [], ◌∷◌, ℕ, zero, suc, ◌*◌, ◌≤◌, ℤ, length, take, drop}
use Rattle.files.specs.Bytes.{all_in_range}
use Rattle.csv_fleet_reader.specs.Fleet.{fleet_values, last_table}

-- so many rows, each of so many values
unfoldable pub rows_of : (count columns : ℕ) → List ℤ → List (List ℤ)
rows_of zero c vs = []
rows_of (suc n) c vs = take c vs ∷ rows_of n c (drop c vs)

-- the values of each boat, in the order of the CSV
unfoldable pub fleet_rows : List ℕ → List (List ℤ)
fleet_rows csv = rows_of (last_table csv).boats (last_table csv).columns (fleet_values csv)

-- no boat and no value is missing
pub record Whole (csv : List ℕ) : Type 0 where
  pub some_boats : 1 ≤ (last_table csv).boats
  pub most_boats : (last_table csv).boats ≤ 256
  pub some_columns : 1 ≤ (last_table csv).columns
  pub most_columns : (last_table csv).columns ≤ 64
  pub count : length (fleet_values csv) ≡ (last_table csv).boats * (last_table csv).columns
  pub in_range : all_in_range (fleet_values csv) ≡ true

unfoldable pub FaultlessWhole : Type 0
FaultlessWhole = (csv : List ℕ) → (last_table csv).fault ≡ 0 → Whole csv
