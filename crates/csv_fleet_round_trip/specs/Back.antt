-- A fleet that is written as CSV reads back: the same rows, for all values in range and any names.
use Rattle.std.specs.Prelude.{◌≡◌, true, List, [], ◌∷◌, map, ℕ, ◌≤◌, length}
use Rattle.files.specs.Bytes.{all_bytes, all_in_range}
use Rattle.csv_fleet_reader.specs.Fleet.{last_table}
use Rattle.csv_fleet_rows.specs.Rows.{fleet_rows}
use Rattle.csv_fleet_round_trip.specs.Writing.{Boat, Fleet, fleet_csv}

-- P of each element
pub data All {A : Type 0} (P : A → Type 0) : List A → Type 0 where
  none : All P []
  more : {x : A} {xs : List A} → P x → All P xs → All P (x ∷ xs)

-- a unit has at most 200 bytes, and a name at least one
pub record UnitFits (u : List ℕ) : Type 0 where
  pub most : length u ≤ 200
  pub bytes : all_bytes u ≡ true

pub record NameFits (n : List ℕ) : Type 0 where
  pub some : 1 ≤ length n
  pub text : UnitFits n

-- a boat of so many columns
pub record BoatFits (c : ℕ) (b : Boat) : Type 0 where
  pub name_fits : NameFits b.name
  pub long : length b.values ≡ c
  pub in_range : all_in_range b.values ≡ true

pub record FleetFits (f : Fleet) : Type 0 where
  pub corner_fits : NameFits f.corner
  pub columns_fit : All NameFits f.columns
  pub some_columns : 1 ≤ length f.columns
  pub most_columns : length f.columns ≤ 64
  pub units_fit : All UnitFits f.units
  pub as_many : length f.units ≡ length f.columns
  pub boats_fit : All (BoatFits (length f.columns)) f.boats
  pub some_boats : 1 ≤ length f.boats
  pub most_boats : length f.boats ≤ 256

-- what is read of a CSV has no fault and is this fleet's
pub record ReadBack (f : Fleet) (csv : List ℕ) : Type 0 where
  pub faultless : (last_table csv).fault ≡ 0
  pub columns_back : (last_table csv).columns ≡ length f.columns
  pub boats_back : (last_table csv).boats ≡ length f.boats
  pub rows_back : fleet_rows csv ≡ map (λ b. b.values) f.boats

unfoldable pub FleetReadsBack : Type 0
FleetReadsBack = (f : Fleet) → FleetFits f → ReadBack f (fleet_csv f)
