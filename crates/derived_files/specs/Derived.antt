-- A fleet book and a sheet derived from others by factors, one a column: each column stands as often as its factor says. Definitions only.
use Rattle.std.specs.Prelude.{List, map, ℕ, ℤ}
use Rattle.frank_wolfe.specs.Vectors.{ones, sum}
use Rattle.files.specs.Book.{rows}
use Rattle.files.specs.Sheet.{Sheet, sheet}
use Rattle.repeated_columns.specs.Repeating.{repeated}
use Rattle.book_output.specs.Output.{book_bytes}
use Rattle.sheet_output.specs.Output.{sheet_bytes}

unfoldable pub derived_rows : (factors book : List ℕ) → List (List ℤ)
derived_rows fs b = map (repeated fs) (rows b)

unfoldable pub derived_book : (factors book : List ℕ) → List ℕ
derived_book fs b = book_bytes (derived_rows fs b) (sum fs)

-- every factor 1, the same steps and tolerance
unfoldable pub derived : (factors sheet : List ℕ) → Sheet
derived fs s = record { target = repeated fs (sheet s).target; factors = ones (sum fs); steps = (sheet s).steps; tolerance = (sheet s).tolerance }

unfoldable pub derived_sheet : (factors sheet : List ℕ) → List ℕ
derived_sheet fs s = sheet_bytes (derived fs s)
