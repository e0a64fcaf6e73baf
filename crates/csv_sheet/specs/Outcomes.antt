-- What a call of csv_sheet ends with, in numbers. Definitions only.
use Rattle.std.specs.Prelude.{ℕ, Result, Ok, Err}
use Rattle.csv_fleet_tokens.specs.Faults.{fault_number}
use Rattle.csv_sheet_rows.specs.declared.Finding.{Finding}
use Rattle.csv_sheet.specs.declared.Made.{Made}

-- the first fault with its place, and 0 for the rest; or 0 four times, and what was made
pub record Outcome : Type 0 where
  pub fault : ℕ
  pub line : ℕ
  pub row : ℕ
  pub field : ℕ
  pub len : ℕ
  pub columns : ℕ
  pub factors : ℕ
  pub steps : ℕ
  pub tolerance : ℕ

abbrev pub refused : Finding → Outcome
refused f =
    record { fault = fault_number f.fault; line = f.line; row = f.row; field = f.field; len = 0; columns = 0; factors = 0; steps = 0; tolerance = 0 }

abbrev pub written : Made → Outcome
written m =
    record {
      fault = 0;
      line = 0;
      row = 0;
      field = 0;
      len = m.len;
      columns = m.columns;
      factors = m.factors;
      steps = m.steps;
      tolerance = m.tolerance;
    }

abbrev pub outcome : Result Made Finding → Outcome
outcome (Ok m) = written m
outcome (Err f) = refused f
