-- The sheet that scale cells, steps and a tolerance give. Definitions only.
use Rattle.std.specs.Prelude.{not, cond, List, ◌++◌, map, ℕ, zero, suc, ◌-◌, eqb, ltb, length, replicate, Result, Ok, Err}
use Rattle.refusals.specs.declared.Refusal.{Refusal}
use Rattle.refusals.specs.Numbers.{number}
use Rattle.frank_wolfe.specs.Vectors.{ones}
use Rattle.files.specs.Bytes.{between}
use Rattle.files.specs.Book.{columns}
use Rattle.files.specs.Sheet.{Sheet}
use Rattle.files.specs.Limits.{step_limit}
use Rattle.scale_cells.specs.declared.ScaleCell.{ScaleCell}
use Rattle.scale_cells.specs.Cells.{cell_value, read_cells, scale_refusal}
use Rattle.sheet_output.specs.Output.{sheet_bytes}
use Rattle.scale_sheet.specs.declared.MadeSheet.{MadeSheet}
use Rattle.scale_sheet.specs.declared.ScaleSheet.{ScaleSheet}

-- the first refusal that applies: 1 to 6, then 41 to 43 cell by cell, then 14, then 15; 0 if none does
unfoldable pub scale_sheet_refusal : (book : List ℕ) → List ScaleCell → (steps tolerance : ℕ) → ℕ
scale_sheet_refusal b cs steps tolerance =
    cond (not (eqb (scale_refusal b cs) 0)) (scale_refusal b cs)
    (cond (not (between 1 step_limit steps)) 14
    (cond (ltb 1024000000 tolerance) 15
    0))

-- what the sheet asks for: the values of the cells that are read, every factor 1, with these steps and this tolerance
abbrev pub asked : (book : List ℕ) → List ScaleCell → (steps tolerance : ℕ) → Sheet
asked b cs k t = record { target = map cell_value (read_cells b cs); factors = ones (columns b); steps = k; tolerance = t }

-- no byte
abbrev pub refused_sheet : (refusal : ℕ) → ScaleSheet
refused_sheet n = record { refusal = n; len = 0; bytes = replicate 144 0 }

-- of a result of the code: a made sheet, or the reason
abbrev pub as_sheet : Result MadeSheet Refusal → ScaleSheet
as_sheet (Ok m) = record { refusal = 0; len = m.len; bytes = m.bytes }
as_sheet (Err r) = refused_sheet (number r)

-- by number: 0 gives these bytes and zeros behind them, any other number refuses
unfoldable pub sheet_after : (refusal : ℕ) → List ℕ → ScaleSheet
sheet_after zero bs = record { refusal = zero; len = length bs; bytes = bs ++ replicate (144 - length bs) 0 }
sheet_after (suc n) bs = refused_sheet (suc n)

unfoldable pub scale_sheet : (book : List ℕ) → List ScaleCell → (steps tolerance : ℕ) → ScaleSheet
scale_sheet b cs k t = sheet_after (scale_sheet_refusal b cs k t) (sheet_bytes (asked b cs k t))
