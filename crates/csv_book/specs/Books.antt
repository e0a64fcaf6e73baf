-- The fleet book that a CSV gives. Definitions only.
use Rattle.std.specs.Prelude.{cond, Result, Ok, Err, List, ℕ, zero, suc, ltb, length}
use Rattle.buffers.specs.Placed.{placed}
use Rattle.book_output.specs.Output.{book_bytes}
use Rattle.csv_fleet_reader.specs.Fleet.{last_table, last_line}
use Rattle.csv_fleet_rows.specs.Rows.{fleet_rows}
use Rattle.csv_fleet_tokens.specs.Faults.{fault_number}
use Rattle.csv_front_text.specs.declared.Front.{Front}
use Rattle.csv_front_text.specs.declared.Front.TheVariants.{Nothing}
use Rattle.csv_front_text.specs.Front.{file_front, with_front}
use Rattle.csv_book.specs.declared.Made.{Made as Book}
use Rattle.csv_book.specs.declared.Finding.{Finding}
use Rattle.files.specs.Limits.{file_limit}

-- what was made, with the number of the fault, 0 where there is none
pub record Made : Type 0 where
  pub fault : ℕ
  pub line : ℕ
  pub field : ℕ
  pub len : ℕ
  pub boats : ℕ
  pub columns : ℕ
  pub front : Front

-- the book of a CSV without front text, and with it
unfoldable pub bare_book : List ℕ → List ℕ
bare_book csv = book_bytes (fleet_rows csv) (last_table csv).columns

unfoldable pub csv_book : List ℕ → List ℕ
csv_book csv = with_front csv (bare_book csv)

abbrev pub nothing_made : (fault line field boats columns : ℕ) → Made
nothing_made f l p n c = record { fault = f; line = l; field = p; len = 0; boats = n; columns = c; front = Nothing }

-- of what the code gives back
abbrev pub made_of : Book → Made
made_of b = record { fault = 0; line = 0; field = 0; len = b.len; boats = b.boats; columns = b.columns; front = b.front }

abbrev pub unmade : Finding → Made
unmade f = nothing_made (fault_number f.fault) f.line f.field f.boats f.columns

abbrev pub numbered : Result Book Finding → Made
numbered (Ok b) = made_of b
numbered (Err f) = unmade f

-- by the fault of the table; 0 is none
unfoldable pub made_by : (fault : ℕ) → List ℕ → Made
made_by zero csv =
    record {
      fault = 0;
      line = 0;
      field = 0;
      len = length (csv_book csv);
      boats = (last_table csv).boats;
      columns = (last_table csv).columns;
      front = file_front csv (bare_book csv);
    }
made_by (suc f) csv = nothing_made (suc f) (last_line csv) (last_table csv).field (last_table csv).boats (last_table csv).columns

-- 11 for a buffer that is too short, then 10 for a CSV that is too long, then the fault of the table
unfoldable pub book_made : (room : ℕ) → List ℕ → Made
book_made room csv = cond (ltb room file_limit) (nothing_made 11 0 0 0 0) (cond (ltb 200000 (length csv)) (nothing_made 10 0 0 0 0) (made_by (last_table csv).fault csv))

-- the buffer after the call: as it was where there is a fault
unfoldable pub output_by : (fault : ℕ) → (csv output : List ℕ) → List ℕ
output_by zero csv out = placed out 0 (csv_book csv)
output_by (suc f) csv out = out
