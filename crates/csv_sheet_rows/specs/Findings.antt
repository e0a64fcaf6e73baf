-- What is found wrong with a CSV, in numbers. Definitions only.
use Rattle.std.specs.Prelude.{ℕ, Result, Ok, Err}
use Rattle.csv_fleet_tokens.specs.Faults.{fault_number}
use Rattle.csv_sheet_rows.specs.declared.Finding.{Finding}

-- the first fault with its line, row and field; all are 0 where nothing is wrong
pub record Found : Type 0 where
  pub fault : ℕ
  pub line : ℕ
  pub row : ℕ
  pub field : ℕ

abbrev pub numbered : Finding → Found
numbered f = record { fault = fault_number f.fault; line = f.line; row = f.row; field = f.field }

abbrev pub found_number : {value : Type 0} → Result value Finding → Found
found_number (Ok x) = record { fault = 0; line = 0; row = 0; field = 0 }
found_number (Err f) = numbered f
