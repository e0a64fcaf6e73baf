-- The rows of a fleet book and the target of a sheet, as values at offsets of the file.
use mathlib.Core.Path.{◌≡◌}
use mathlib.Core.List.{List, []}
use Prim.Native.Nat.{ℕ, ◌+◌, ◌*◌, ◌<◌}
use native.Mathlib.Nat.{suc-mul, mul-le-mul_right}
use native.Mathlib.Omega.{arith}
use lib.ListN.{get_or, drop}
use Rattle.files.specs.Bytes.{values, body}
use Rattle.files.specs.Book.{boats, columns, rows_offset, rows_from, rows}
use Rattle.files.specs.Sheet.{sheet_columns, sheet_back, target_offset, sheet}
use Rattle.files.proofs.Rows.{values_take_some, rows_take, row_of_rows}

-- the cell of row i and column j is inside n rows of c columns
pub cell_inside : (n c i j : ℕ) → i < n → j < c → i * c + j < n * c
cell_inside n c i j h k = omega (arith, mul-le-mul_right c h, suc-mul i c)

pub rows_at : (b : List ℕ) → rows b ≡ rows_from (boats b) (columns b) (drop (rows_offset b) b)
unfolding rows body
rows_at b = rows_take (boats b) (columns b) _

pub row_at : (b : List ℕ) (i : ℕ) → i < boats b → get_or (rows b) i [] ≡ values (columns b) (drop (rows_offset b + 2 * (i * columns b)) b)
row_at b i h = rw rows_at (row_of_rows (boats b) (columns b) i (rows_offset b) b h)

pub target_at : (s : List ℕ) → (sheet s).target ≡ values (sheet_columns s) (drop (target_offset s) s)
unfolding sheet body
target_at s = values_take_some (sheet_columns s) (sheet_back s) _ (omega arith)
