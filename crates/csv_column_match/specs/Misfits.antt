-- What is found where columns do not match, in numbers. Definitions only.
use Rattle.std.specs.Prelude.{ℕ, Result, Ok, Err}
use Rattle.csv_fleet_tokens.specs.Faults.{fault_number}
use Rattle.csv_column_match.specs.declared.Mismatch.{Mismatch}

-- the first fault and the column that is meant; both are 0 where the columns match
pub record Misfit : Type 0 where
  pub fault : ℕ
  pub column : ℕ

abbrev pub numbered : Mismatch → Misfit
numbered m = record { fault = fault_number m.fault; column = m.column }

abbrev pub misfit_number : {value : Type 0} → Result value Mismatch → Misfit
misfit_number (Ok x) = record { fault = 0; column = 0 }
misfit_number (Err m) = numbered m
