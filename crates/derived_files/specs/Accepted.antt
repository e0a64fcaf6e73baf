-- A derived book and a derived sheet are not refused, and read back as what was derived. By the sheet's own factors they are the
-- files of the plain twin of the problem.
use Rattle.std.specs.Prelude.{◌≡◌, List, ℕ, ◌≤◌, length}
use Rattle.frank_wolfe.specs.Vectors.{sum}
use Rattle.files.specs.Book.{boats, columns, book_refusal}
use Rattle.files.specs.Sheet.{sheet, files_refusal}
use Rattle.files.specs.Fits.{SheetFits}
use Rattle.method.specs.Problem.{Terms, fleet_problem}
use Rattle.method.specs.Plain.{plain_problem}
use Rattle.repeated_columns.specs.Repeating.{plain_of}
use Rattle.book_output.specs.Back.{BookOf}
use Rattle.sheet_output.specs.Back.{SheetOf}
use Rattle.derived_files.specs.Derived.{derived_rows, derived_book, derived, derived_sheet}

-- factors for c columns, one each, of total 1 to 64
pub record FactorsFit (c : ℕ) (fs : List ℕ) : Type 0 where
  pub each_column : length fs ≡ c
  pub some_columns : 1 ≤ sum fs
  pub most_columns : sum fs ≤ 64

unfoldable pub BookDerived : Type 0
BookDerived = (fs b : List ℕ) → book_refusal b ≡ 0 → FactorsFit (columns b) fs → BookOf (derived_rows fs b) (sum fs) (derived_book fs b)

unfoldable pub SheetDerived : Type 0
SheetDerived = (c : ℕ) (fs s : List ℕ) → SheetFits c s → FactorsFit c fs → SheetOf (derived fs s) (derived_sheet fs s)

-- both serve a search
unfoldable pub FilesDerived : Type 0
FilesDerived = (fs b s : List ℕ) → files_refusal b s ≡ 0 → FactorsFit (columns b) fs → files_refusal (derived_book fs b) (derived_sheet fs s) ≡ 0

-- ---- By the sheet's own factors

abbrev pub twin_book : (book sheet : List ℕ) → List ℕ
twin_book b s = derived_book (sheet s).factors b

abbrev pub twin_sheet : (sheet : List ℕ) → List ℕ
twin_sheet s = derived_sheet (sheet s).factors s

-- a plain search on them is about the plain twin of the problem that b and s set, in a call of any terms
pub record TwinFiles (b s : List ℕ) : Type 0 where
  pub book_fits : length (twin_book b s) ≤ 32780
  pub sheet_fits : length (twin_sheet s) ≤ 144
  pub accepted : files_refusal (twin_book b s) (twin_sheet s) ≡ 0
  pub same_boats : boats (twin_book b s) ≡ boats b
  pub plain_twin : (m : Terms) → plain_problem m.schedule (twin_book b s) (twin_sheet s) ≡ plain_of (fleet_problem m b s)

unfoldable pub FilesTwin : Type 0
FilesTwin = (b s : List ℕ) → files_refusal b s ≡ 0 → TwinFiles b s
