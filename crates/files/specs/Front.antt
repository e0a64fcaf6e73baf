-- Front text is never read: with any two fronts that keep a file within 40,000 bytes, a file that holds its whole body
-- has the same contents and the same refusal. SameBehind says of two files that they differ in front text alone.
use Rattle.std.specs.Prelude.{◌≡◌, List, ◌++◌, ℕ, ◌+◌, ◌≤◌, length}
use Rattle.files.specs.Book.{boats, columns, BookWhole, rows, book_refusal}
use Rattle.files.specs.Sheet.{SheetWhole, sheet, sheet_refusal_in, files_refusal}
use Rattle.files.specs.Limits.{file_limit}

-- a front and a file of at most 40,000 bytes together
abbrev pub FrontFits : (front file : List ℕ) → Type 0
FrontFits front file = length front + length file ≤ file_limit

unfoldable pub BookFrontUnread : Type 0
BookFrontUnread =
    (f g b : List ℕ) → BookWhole b → FrontFits f b → FrontFits g b →
    (boats (f ++ b) ≡ boats (g ++ b)) × (columns (f ++ b) ≡ columns (g ++ b)) × (rows (f ++ b) ≡ rows (g ++ b)) × (book_refusal (f ++ b) ≡ book_refusal (g ++ b))

unfoldable pub SheetFrontUnread : Type 0
SheetFrontUnread =
    (f g s : List ℕ) (least most : ℕ) → SheetWhole s → FrontFits f s → FrontFits g s →
    (sheet (f ++ s) ≡ sheet (g ++ s)) × (sheet_refusal_in least most (f ++ s) ≡ sheet_refusal_in least most (g ++ s))

-- ---- Two files that differ in front text alone

-- the same file; or one that holds its whole body, behind two fronts that keep it within 40,000 bytes
pub data SameBehind (Whole : List ℕ → Type 0) : List ℕ → List ℕ → Type 0 where
  same_file : {x : List ℕ} → SameBehind Whole x x
  other_front : (f g x : List ℕ) → Whole x → FrontFits f x → FrontFits g x → SameBehind Whole (f ++ x) (g ++ x)

abbrev pub SameBook : List ℕ → List ℕ → Type 0
SameBook b b' = SameBehind BookWhole b b'

abbrev pub SameSheet : List ℕ → List ℕ → Type 0
SameSheet s s' = SameBehind SheetWhole s s'

-- such a book and such a sheet have the same contents and are refused by the same number
pub record FilesAlike (b s b' s' : List ℕ) : Type 0 where
  pub boats : boats b' ≡ boats b
  pub columns : columns b' ≡ columns b
  pub rows : rows b' ≡ rows b
  pub sheet : sheet s' ≡ sheet s
  pub book_refusal : book_refusal b' ≡ book_refusal b
  pub refusal : files_refusal b' s' ≡ files_refusal b s

unfoldable pub FilesFrontUnread : Type 0
FilesFrontUnread = (b s b' s' : List ℕ) → SameBook b b' → SameSheet s s' → FilesAlike b s b' s'
