-- What holds of the book that a CSV gives.
use Rattle.std.specs.Prelude.{◌≡◌, List, [], map, ℕ, zero, suc, ◌≤◌, length}
use Rattle.files.specs.Book.{boats, columns, rows, book_refusal}
use Rattle.files.specs.Limits.{file_limit}
use Rattle.csv_fleet_reader.specs.Fleet.{fleet_values}
use Rattle.csv_fleet_rows.specs.Rows.{fleet_rows}
use Rattle.csv_fleet_rows.specs.Texts.{fleet_texts, EachSays}
use Rattle.csv_fleet_round_trip.specs.Writing.{Fleet, fleet_csv}
use Rattle.csv_fleet_round_trip.specs.Back.{FleetFits}
use Rattle.csv_book.specs.Books.{Made}

-- b is a fleet book that is not refused, its rows are exactly those of the CSV, and each of their values is the number that the figures of its field say
pub record BookAccepted (csv : List ℕ) (r : Made) (b : List ℕ) : Type 0 where
  pub size : length b ≡ r.len
  pub most_bytes : r.len ≤ file_limit
  pub accepted : book_refusal b ≡ 0
  pub rows_are : rows b ≡ fleet_rows csv
  pub boats_are : boats b ≡ r.boats
  pub columns_are : columns b ≡ r.columns
  pub values_said : EachSays (fleet_values csv) (fleet_texts csv)

unfoldable pub BookRightBy : (fault : ℕ) → (csv : List ℕ) → Made → (b : List ℕ) → Type 0
BookRightBy zero csv r b = BookAccepted csv r b
BookRightBy (suc f) csv r b = b ≡ []

-- b are the bytes that were written, none where there is a fault; where the CSV is that of a fleet, for all values in range and any names, there is none
-- but for the size of the CSV (10) or of the buffer (11), and the book has the fleet's rows
pub record BookRight (csv : List ℕ) (r : Made) (b : List ℕ) : Type 0 where
  pub by_fault : BookRightBy r.fault csv r b
  pub reads_back : (f : Fleet) → FleetFits f → csv ≡ fleet_csv f → (r.fault ≡ 10 → ⊥) → (r.fault ≡ 11 → ⊥) → (r.fault ≡ 0) × (rows b ≡ map (λ x. x.values) f.boats)
