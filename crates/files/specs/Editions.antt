-- Sheets that differ in their edition alone: one of WSH1, the other of WSH2 with every factor 1. They ask for the same, and the same
-- number refuses them, for any book. Definitions only.
use Rattle.std.specs.Prelude.{◌≡◌, true, ◌⊎◌, List, ℕ, ◌≤◌, eqb, length}
use Rattle.frank_wolfe.specs.Vectors.{ones}
use Rattle.files.specs.Bytes.{number, trailer}
use Rattle.files.specs.Sheet.{sheet, sheet_columns, WSH1, WSH2, sheet_lettered, sheet_back, SheetWhole, sheet_refusal_in}
use Rattle.files.specs.Limits.{file_limit}

-- x of WSH1 and y of WSH2 have the same values, steps and tolerance, and every factor of y is 1; each holds its body within
-- 40,000 bytes behind any front text, and both back counts are right or both are wrong
pub record SameValues (x y : List ℕ) : Type 0 where
  pub first : sheet_lettered WSH1 x ≡ true
  pub second : sheet_lettered WSH2 y ≡ true
  pub columns : sheet_columns x ≡ sheet_columns y
  pub target : (sheet x).target ≡ (sheet y).target
  pub factors : (sheet y).factors ≡ ones (sheet_columns y)
  pub steps : (sheet x).steps ≡ (sheet y).steps
  pub tolerance : (sheet x).tolerance ≡ (sheet y).tolerance
  pub whole : SheetWhole x × SheetWhole y
  pub most_bytes : (length x ≤ file_limit) × (length y ≤ file_limit)
  pub backs : eqb (number 0 4 (trailer 16 x)) (sheet_back x) ≡ eqb (number 0 4 (trailer 16 y)) (sheet_back y)

-- either way round
abbrev pub Editions : List ℕ → List ℕ → Type 0
Editions s t = SameValues s t ⊎ SameValues t s

unfoldable pub EditionsAlike : Type 0
EditionsAlike =
    (s t : List ℕ) → Editions s t → (sheet s ≡ sheet t) × ((least most : ℕ) → sheet_refusal_in least most s ≡ sheet_refusal_in least most t)
