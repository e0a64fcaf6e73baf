-- Whether a fleet book or a sheet is what the CSVs beside it make, byte for byte. Nothing is asked of the file: a damaged one is not what they make.
-- Definitions only.
use Rattle.std.specs.Prelude.{Bool, ◌&&◌, ◌||◌, cond, List, ℕ, eqb}
use Rattle.files.specs.Bytes.{same}
use Rattle.files.specs.Limits.{file_limit}
use Rattle.files.specs.Sheet.{sheet_refusal_in}
use Rattle.csv_book.specs.Books.{csv_book, book_made}
use Rattle.csv_sheet.specs.Sheets.{csv_sheet, sheet_made}
use Rattle.editions.specs.Rewriting.{sheet_front, other_edition, edition_refusal}

-- whether a book is the one that a CSV makes, which has no fault
unfoldable pub book_of : (csv book : List ℕ) → Bool
book_of csv b = eqb (book_made file_limit csv).fault 0 && same (csv_book csv) b

-- whether a sheet is the one that was made, or that one in its other edition
unfoldable pub edition_of : (made sheet : List ℕ) → Bool
edition_of m s = same m s || (eqb (edition_refusal m file_limit) 0 && same (other_edition m) s)

-- whether a CSV is the front text of a sheet that is not refused
unfoldable pub front_of : (csv sheet : List ℕ) → Bool
front_of csv s = eqb (sheet_refusal_in 1 64 s) 0 && same (sheet_front s) csv

-- whether a sheet is the one that two CSVs make, by their fault; a fleet's CSV with a fault (12) does not tell the order of the columns
unfoldable pub sheet_by : (fault : ℕ) → (fleet csv sheet : List ℕ) → Bool
sheet_by f fleet csv s = cond (eqb f 12) (front_of csv s) (eqb f 0 && edition_of (csv_sheet fleet csv) s)

unfoldable pub sheet_of : (fleet csv sheet : List ℕ) → Bool
sheet_of fleet csv s = sheet_by (sheet_made file_limit fleet csv).fault fleet csv s
