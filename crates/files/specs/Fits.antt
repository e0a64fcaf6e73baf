-- What is known of an accepted fleet book and of an accepted sheet.
use Rattle.std.specs.Prelude.{◌≡◌, true, List, [], ℕ, ◌≤◌, ◌<◌, length, get_or, pos, nat_abs}
use Rattle.frank_wolfe.specs.Vectors.{sum}
use Rattle.files.specs.Bytes.{all_in_range}
use Rattle.files.specs.Book.{boats, columns, BookWhole, rows, all_rows_in_range}
use Rattle.files.specs.Sheet.{sheet_columns, SheetWhole, sheet}
use Rattle.files.specs.Limits.{file_limit, step_limit}

pub record BookFits (b : List ℕ) : Type 0 where
  pub at_least : 12 ≤ length b
  pub at_most : length b ≤ file_limit
  pub some_boats : 1 ≤ boats b
  pub most_boats : boats b ≤ 256
  pub some_columns : 1 ≤ columns b
  pub most_columns : columns b ≤ 64
  pub whole : BookWhole b
  pub rows_in_range : all_rows_in_range (rows b) ≡ true
  pub row_count : length (rows b) ≡ boats b
  pub row_length : (i : ℕ) → i < boats b → length (get_or (rows b) i []) ≡ columns b
  pub entry_bound : (i j : ℕ) → nat_abs (get_or (get_or (rows b) i []) j (pos 0)) ≤ 2000

-- of a sheet for a book of so many columns
pub record SheetFits (columns : ℕ) (s : List ℕ) : Type 0 where
  pub at_least : 16 ≤ length s
  pub at_most : length s ≤ file_limit
  pub same_columns : sheet_columns s ≡ columns
  pub whole : SheetWhole s
  pub target_length : length (sheet s).target ≡ columns
  pub target_in_range : all_in_range (sheet s).target ≡ true
  pub target_bound : (j : ℕ) → nat_abs (get_or (sheet s).target j (pos 0)) ≤ 2000
  pub factor_count : length (sheet s).factors ≡ columns
  pub some_factor : 1 ≤ sum (sheet s).factors
  pub few_factors : sum (sheet s).factors ≤ 64
  pub some_steps : 1 ≤ (sheet s).steps
  pub most_steps : (sheet s).steps ≤ step_limit
  pub most_tolerance : (sheet s).tolerance ≤ 1024000000
