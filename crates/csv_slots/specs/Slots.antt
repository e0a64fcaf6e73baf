-- Slots for the fields of some rows of a CSV: 200 bytes each, of which a list of sizes says how many are used. Definitions only.
use Rattle.std.specs.Prelude.{◌≡◌, List, ◌++◌, ℕ, ◌+◌, ◌*◌, ◌≤◌, ◌<◌, length, get_or, take, drop}
use Rattle.csv_cells.specs.Cells.{Place, cell_byte, cell_text}

-- what is in slot s
abbrev pub slot : (s : ℕ) → (sizes cells : List ℕ) → List ℕ
slot s sizes cells = take (get_or sizes s 0) (drop (200 * s) cells)

-- 65 slots a row, and none is too full
pub record Room (rows : ℕ) (sizes cells : List ℕ) : Type 0 where
  pub few : rows ≤ 16
  pub sizes_long : length sizes ≡ 65 * rows
  pub cells_long : length cells ≡ 13000 * rows
  pub small : (s : ℕ) → get_or sizes s 0 ≤ 200

pub record Empty (sizes : List ℕ) : Type 0 where
  pub none : (s : ℕ) → get_or sizes s 0 ≡ 0

-- field f of the row d after the first is in slot 65 d + f. A token k at the place p is behind the bytes that were there, where it is a byte of the field
pub record Kept (first rows : ℕ) (p : Place) (k : ℕ) (sizes cells sizes' cells' : List ℕ) : Type 0 where
  pub room : Room rows sizes' cells'
  pub text : (d f : ℕ) → d < rows → f ≤ 64 → slot (65 * d + f) sizes' cells' ≡ slot (65 * d + f) sizes cells ++ cell_byte (first + d) f (get_or sizes (65 * d + f) 0) p k
  pub size : (d f : ℕ) → d < rows → f ≤ 64 → get_or sizes' (65 * d + f) 0 ≡ get_or sizes (65 * d + f) 0 + length (cell_byte (first + d) f (get_or sizes (65 * d + f) 0) p k)

-- each field of the rows is in its slot
pub record Held (first rows : ℕ) (csv sizes cells : List ℕ) : Type 0 where
  pub room : Room rows sizes cells
  pub text : (d f : ℕ) → d < rows → f ≤ 64 → slot (65 * d + f) sizes cells ≡ cell_text (first + d) f csv
  pub size : (d f : ℕ) → d < rows → f ≤ 64 → get_or sizes (65 * d + f) 0 ≡ length (cell_text (first + d) f csv)
