-- What is written reads back: a fleet book of rows that a book can have is accepted and has them.
use Rattle.std.specs.Prelude.{◌≡◌, true, List, [], ℕ, ◌+◌, ◌*◌, ◌≤◌, ◌<◌, length, get_or, ℤ}
use Rattle.files.specs.Book.{boats, columns, rows, all_rows_in_range, book_refusal}
use Rattle.book_output.specs.Output.{book_bytes}

-- rows that a fleet book of so many columns can have
pub record RowsFit (vs : List (List ℤ)) (c : ℕ) : Type 0 where
  pub some_boats : 1 ≤ length vs
  pub most_boats : length vs ≤ 256
  pub some_columns : 1 ≤ c
  pub most_columns : c ≤ 64
  pub row_length : (i : ℕ) → i < length vs → length (get_or vs i []) ≡ c
  pub in_range : all_rows_in_range vs ≡ true

-- b is a fleet book that is not refused and has these rows
pub record BookOf (vs : List (List ℤ)) (c : ℕ) (b : List ℕ) : Type 0 where
  pub size : length b ≡ 2 * (length vs * c) + 12
  pub most_bytes : length b ≤ 32780
  pub boats_back : boats b ≡ length vs
  pub columns_back : columns b ≡ c
  pub rows_back : rows b ≡ vs
  pub accepted : book_refusal b ≡ 0

unfoldable pub BookReadsBack : Type 0
BookReadsBack = (vs : List (List ℤ)) (c : ℕ) → RowsFit vs c → BookOf vs c (book_bytes vs c)
