-- What one cell gives, and what a list of cells gives. Definitions only.
use Rattle.std.specs.Prelude.{List, map, ℕ, zero, suc, ℤ, pos, Float, Result, Ok, Err}
use Rattle.refusals.specs.declared.Refusal.{Refusal}
use Rattle.refusals.specs.Numbers.{number}
use Rattle.scale_cells.specs.declared.Cell.TheVariants.{Net}
use Rattle.scale_cells.specs.declared.ScaleCell.{ScaleCell}
use Rattle.scale_cells.specs.declared.SheetValues.{SheetValues}
use Rattle.scale_cells.specs.Cells.{cell_value, cell_refusal, cells_refusal, values_after}

-- a cell that is a net
abbrev pub net_cell : Float → (unit : ℕ) → ScaleCell
net_cell x u = record { cell = Net x; unit = u }

-- what one cell gives: the number that refuses it and 0, or 0 and its value
pub record Outcome : Type 0 where
  pub refusal : ℕ
  pub value : ℤ

-- the same of a result of the code: the value, or the reason
abbrev pub outcome : Result ℤ Refusal → Outcome
outcome (Ok v) = record { refusal = 0; value = v }
outcome (Err r) = record { refusal = number r; value = pos 0 }

-- by number: 0 gives the value, any other number 0
unfoldable pub outcome_of : (refusal : ℕ) → ℤ → Outcome
outcome_of zero v = record { refusal = zero; value = v }
outcome_of (suc n) v = record { refusal = suc n; value = pos 0 }

unfoldable pub cell_outcome : ScaleCell → Outcome
cell_outcome s = outcome_of (cell_refusal s) (cell_value s)

-- of all cells that are read
unfoldable pub values_of : List ScaleCell → SheetValues
values_of cs = record { refusal = cells_refusal cs; values = values_after (cells_refusal cs) (map cell_value cs) }
