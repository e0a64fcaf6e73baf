-- Bytes in front of a sheet, of either edition: an accepted sheet stays what it is.
use Rattle.std.specs.Prelude.{◌≡◌, List, ◌++◌, ℕ, ◌≤◌, length}
use Rattle.files.specs.Sheet.{sheet, sheet_columns, sheet_refusal}
use Rattle.files.specs.Limits.{file_limit}

-- t stays the same sheet, for a book of c columns, with these bytes in front
pub record SameWithFront (c : ℕ) (front t : List ℕ) : Type 0 where
  pub same_sheet : sheet (front ++ t) ≡ sheet t
  pub same_columns : sheet_columns (front ++ t) ≡ sheet_columns t
  pub accepted : sheet_refusal c (front ++ t) ≡ 0

-- a sheet of either edition that is not refused takes any bytes in front that a file has room for
unfoldable pub SheetTakesFront : Type 0
SheetTakesFront = (c : ℕ) (front t : List ℕ) → sheet_refusal c t ≡ 0 → length (front ++ t) ≤ file_limit → SameWithFront c front t
