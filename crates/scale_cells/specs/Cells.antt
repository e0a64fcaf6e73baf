-- The sheet value of a scale cell, and what refuses cells. Definitions only.
use Rattle.std.specs.Prelude.{Bool, true, false, ◌&&◌, not, cond, List, [], ◌∷◌, ◌++◌, map, ℕ, zero, suc, ◌-◌, eqb, ℤ, pos, length, take, replicate, Float, Result, Ok, Err}
use Rattle.std.specs.Float.{nan, binary64}
use Rattle.std.specs.Float.Ieee.{sub}
use Rattle.refusals.specs.declared.Refusal.{Refusal}
use Rattle.refusals.specs.Numbers.{number}
use Rattle.files.specs.Bytes.{between, in_range}
use Rattle.files.specs.Book.{columns, book_refusal}
use Rattle.rounding.specs.Rounding.{rounded}
use Rattle.scale_readings.specs.Readings.{within_limit, whole}
use Rattle.scale_cells.specs.declared.Cell.{Cell}
use Rattle.scale_cells.specs.declared.Cell.TheVariants.{Unweighed, Net, Weighed}
use Rattle.scale_cells.specs.declared.ScaleCell.{ScaleCell}
use Rattle.scale_cells.specs.declared.SheetValues.{SheetValues}

unfoldable pub is_weighed : Cell → Bool
is_weighed Unweighed = false
is_weighed (Net x) = true
is_weighed (Weighed w) = true

-- the net: gross less tare by one IEEE 754 subtraction. An unweighed cell has none
unfoldable pub net : Cell → Float
net Unweighed = nan
net (Net x) = x
net (Weighed w) = sub binary64 w.gross w.tare

-- the exact net in whole kilograms, then those in the column's unit: two roundings, halves to even
unfoldable pub cell_value : ScaleCell → ℤ
cell_value s = rounded (whole (net s.cell)) s.unit

-- the first refusal, 41 to 43, that applies to a cell; 0 if none does
unfoldable pub cell_refusal : ScaleCell → ℕ
cell_refusal s =
    cond (not (is_weighed s.cell)) 41
    (cond (not (within_limit (net s.cell))) 42
    (cond (not (between 1 10000 s.unit && in_range (cell_value s))) 43 0))

-- cell by cell: all of a cell's tests come before the next cell's
unfoldable pub cells_refusal : List ScaleCell → ℕ
cells_refusal [] = 0
cells_refusal (s ∷ ss) = cond (eqb (cell_refusal s) 0) (cells_refusal ss) (cell_refusal s)

-- the cells that are read, one a column of the book
abbrev pub read_cells : (book : List ℕ) → List ScaleCell → List ScaleCell
read_cells b cs = take (columns b) cs

-- the book's refusal, else that of the cells that are read
unfoldable pub scale_refusal : (book : List ℕ) → List ScaleCell → ℕ
scale_refusal b cs = cond (eqb (book_refusal b) 0) (cells_refusal (read_cells b cs)) (book_refusal b)

-- the 64 values by number: 0 gives these and zeros behind them, any other number zeros
unfoldable pub values_after : (refusal : ℕ) → List ℤ → List ℤ
values_after zero vs = vs ++ replicate (64 - length vs) (pos 0)
values_after (suc n) vs = replicate 64 (pos 0)

unfoldable pub sheet_values : (book : List ℕ) → List ScaleCell → SheetValues
sheet_values b cs = record { refusal = scale_refusal b cs; values = values_after (scale_refusal b cs) (map cell_value (read_cells b cs)) }

-- the same of a result of the code: the values, or the reason
abbrev pub as_values : Result (List ℤ) Refusal → SheetValues
as_values (Ok vs) = record { refusal = 0; values = vs }
as_values (Err r) = record { refusal = number r; values = replicate 64 (pos 0) }
