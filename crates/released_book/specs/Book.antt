-- The fleet book of the boats that may be used: their rows in the book's order, without front text. A search of it is a search of the book under
-- the set. Definitions only.
use Rattle.std.specs.Prelude.{◌≡◌, List, ℕ, ◌≤◌, length}
use Rattle.files.specs.Book.{boats, columns, rows, book_refusal}
use Rattle.files.specs.Sheet.{files_refusal}
use Rattle.method.specs.ReleasedBoats.{Usable, used_from, set_refusal, kept}
use Rattle.method.specs.Problem.{Terms, on_released, fleet_problem}
use Rattle.book_output.specs.Output.{book_bytes}

unfoldable pub released_book : Usable → (book : List ℕ) → List ℕ
released_book u b = book_bytes (kept u 0 (rows b)) (columns b)

-- a book that serves, whatever the sheet, the shares and the factors
pub record ReleasedFiles (u : Usable) (b : List ℕ) : Type 0 where
  pub book_fits : length (released_book u b) ≤ 32780
  pub boats_are : boats (released_book u b) ≡ length (used_from u 0 (boats b))
  pub files_same : (s : List ℕ) → files_refusal (released_book u b) s ≡ files_refusal b s
  pub problem_same : (m : Terms) (s : List ℕ) → fleet_problem m (released_book u b) s ≡ on_released u (fleet_problem m b s)

unfoldable pub BookReleased : Type 0
BookReleased = (u : Usable) (b : List ℕ) → book_refusal b ≡ 0 → set_refusal (boats b) u ≡ 0 → ReleasedFiles u b
