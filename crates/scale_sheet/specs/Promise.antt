-- What holds of the sheet that scale cells give, and of a refusal.
use Rattle.std.specs.Prelude.{◌≡◌, List, ◌⊎◌, ℕ, zero, suc, ◌-◌, ◌≤◌, ◌<◌, take, drop, replicate}
use Rattle.frank_wolfe.specs.Vectors.{ones}
use Rattle.files.specs.Book.{columns}
use Rattle.files.specs.Sheet.{sheet, files_refusal}
use Rattle.files.specs.Limits.{step_limit}
use Rattle.scale_cells.specs.declared.ScaleCell.{ScaleCell}
use Rattle.scale_cells.specs.Cells.{scale_refusal, sheet_values}
use Rattle.scale_cells.specs.Promise.{ValuesAccepted, ValuesRefused}
use Rattle.scale_sheet.specs.declared.ScaleSheet.{ScaleSheet}
use Rattle.scale_sheet.specs.Sheets.{refused_sheet}

-- the sheet's own bytes
abbrev pub made : ScaleSheet → List ℕ
made r = take r.len r.bytes

-- of an accepted call
pub record SheetAccepted (b : List ℕ) (cs : List ScaleCell) (steps tolerance : ℕ) (r : ScaleSheet) : Type 0 where
  pub most_bytes : r.len ≤ 144
  pub later_bytes : drop r.len r.bytes ≡ replicate (144 - r.len) 0
  -- the sheet is one for this book, and asks for the cells' values with these steps and this tolerance
  pub accepted : files_refusal b (made r) ≡ 0
  pub target_is : (sheet (made r)).target ≡ take (columns b) (sheet_values b cs).values
  pub factors_are : (sheet (made r)).factors ≡ ones (columns b)
  pub steps_are : (sheet (made r)).steps ≡ steps
  pub tolerance_is : (sheet (made r)).tolerance ≡ tolerance
  pub values_right : ValuesAccepted b cs (sheet_values b cs).values

-- why a call is refused by n: the book or a cell, then the steps, then the tolerance
pub data Reason (b : List ℕ) (cs : List ScaleCell) (steps tolerance : ℕ) : ℕ → Type 0 where
  by_cells : (n : ℕ) → ValuesRefused b cs n (sheet_values b cs).values → Reason b cs steps tolerance n
  by_steps : scale_refusal b cs ≡ 0 → (steps ≡ 0) ⊎ (step_limit < steps) → Reason b cs steps tolerance 14
  by_tolerance : scale_refusal b cs ≡ 0 → 1 ≤ steps → steps ≤ step_limit → 1024000000 < tolerance → Reason b cs steps tolerance 15

unfoldable pub SheetRightBy : (b : List ℕ) → List ScaleCell → (steps tolerance refusal : ℕ) → ScaleSheet → Type 0
SheetRightBy b cs k t zero r = SheetAccepted b cs k t r
SheetRightBy b cs k t (suc n) r = (r ≡ refused_sheet (suc n)) × Reason b cs k t (suc n)

abbrev pub SheetRight : (b : List ℕ) → List ScaleCell → (steps tolerance : ℕ) → ScaleSheet → Type 0
SheetRight b cs k t r = SheetRightBy b cs k t r.refusal r
