-- What holds of the values that cells give, and of a refusal, in terms that do not mention the code.
use Rattle.std.specs.Prelude.{◌≡◌, Bool, true, false, ◌&&◌, List, ◌⊎◌, ℕ, zero, suc, ◌*◌, ◌≤◌, ◌<◌, ℤ, pos, nat_abs, length, get_or, take, replicate, Float}
use Rattle.files.specs.Book.{columns, book_refusal}
use Rattle.files.specs.Sheet.{sheet, sheet_refusal}
use Rattle.rounding.specs.Rounding.{HalfEven}
use Rattle.scale_readings.specs.Readings.{is_finite, numerator, denominator, most_kilograms}
use Rattle.scale_cells.specs.declared.Cell.{Cell}
use Rattle.scale_cells.specs.declared.Cell.TheVariants.{Unweighed, Net, Weighed}
use Rattle.scale_cells.specs.declared.ScaleCell.{ScaleCell}
use Rattle.scale_cells.specs.declared.SheetValues.{SheetValues}
use Rattle.scale_cells.specs.Cells.{is_weighed, net, cell_value, cell_refusal, read_cells, sheet_values}

-- a cell that was not weighed, which stands for a missing one too
abbrev pub unweighed : ScaleCell
unweighed = record { cell = Unweighed; unit = 0 }

abbrev pub cell_at : List ScaleCell → ℕ → ScaleCell
cell_at cs i = get_or cs i unweighed

-- whether every reading of a cell is finite
unfoldable pub finite_readings : Cell → Bool
finite_readings Unweighed = true
finite_readings (Net x) = is_finite x
finite_readings (Weighed w) = is_finite w.gross && is_finite w.tare

-- the exact value is at most 1,048,576 either way, or it is beyond
abbrev pub Within : Float → Type 0
Within x = nat_abs (numerator x) ≤ most_kilograms * denominator x

abbrev pub Beyond : Float → Type 0
Beyond x = most_kilograms * denominator x < nat_abs (numerator x)

-- of an accepted cell and its value v
pub record CellAccepted (s : ScaleCell) (v : ℤ) : Type 0 where
  pub weighed : is_weighed s.cell ≡ true
  pub readings : finite_readings s.cell ≡ true
  pub finite : is_finite (net s.cell) ≡ true
  pub within : Within (net s.cell)
  pub least_unit : 1 ≤ s.unit
  pub most_unit : s.unit ≤ 10000
  -- v is the rounding of whole kilograms over the unit, and they are the rounding of the exact net
  pub kilograms : ℤ
  pub first : HalfEven (numerator (net s.cell)) (denominator (net s.cell)) kilograms
  pub second : HalfEven kilograms s.unit v
  pub in_range : nat_abs v ≤ 2000
  -- half a kilogram or less either way, and so zero of either sign, gives 0
  pub half_kilogram : 2 * nat_abs (numerator (net s.cell)) ≤ denominator (net s.cell) → v ≡ pos 0

-- a reading or the net is not finite, or the exact net is beyond
abbrev pub OutOfReach : Cell → Type 0
OutOfReach c = (finite_readings c ≡ false) ⊎ ((is_finite (net c) ≡ false) ⊎ Beyond (net c))

-- the unit is not from 1 to 10,000, or the value not from -2,000 to 2,000
abbrev pub OutOfRange : ScaleCell → Type 0
OutOfRange s = (s.unit ≡ 0) ⊎ ((10000 < s.unit) ⊎ (2000 < nat_abs (cell_value s)))

abbrev pub Exactly : Type 0 → Type 0 → Type 0
Exactly A B = (A → B) × (B → A)

-- which number refuses a cell
pub record CellJudged (s : ScaleCell) : Type 0 where
  pub unweighed_41 : Exactly (cell_refusal s ≡ 41) (is_weighed s.cell ≡ false)
  pub beyond_42 : Exactly (cell_refusal s ≡ 42) ((is_weighed s.cell ≡ true) × OutOfReach s.cell)
  pub outside_43 : Exactly (cell_refusal s ≡ 43) ((is_weighed s.cell ≡ true) × (is_finite (net s.cell) ≡ true) × Within (net s.cell) × OutOfRange s)
  -- a reading that is not finite gives a net that is not
  pub net_follows : finite_readings s.cell ≡ false → is_finite (net s.cell) ≡ false

-- of cells that are refused by n: a cell refuses by n, and none before it refuses
pub record FirstRefusal (cs : List ScaleCell) (n : ℕ) : Type 0 where
  pub place : ℕ
  pub inside : place < length cs
  pub before : (i : ℕ) → i < place → cell_refusal (cell_at cs i) ≡ 0
  pub refuses : cell_refusal (cell_at cs place) ≡ n
  pub judged : CellJudged (cell_at cs place)

-- of the values of an accepted call
pub record ValuesAccepted (b : List ℕ) (cs : List ScaleCell) (vs : List ℤ) : Type 0 where
  pub book_accepted : book_refusal b ≡ 0
  pub count : length vs ≡ 64
  pub each : (i : ℕ) → i < columns b → CellAccepted (cell_at cs i) (get_or vs i (pos 0))
  pub later : (i : ℕ) → columns b ≤ i → get_or vs i (pos 0) ≡ pos 0
  -- a sheet for this book with these values as its target is not refused by 17
  pub never_17 : (s : List ℕ) → (sheet s).target ≡ take (columns b) vs → sheet_refusal (columns b) s ≡ 17 → ⊥

-- of a refused call
pub record ValuesRefused (b : List ℕ) (cs : List ScaleCell) (n : ℕ) (vs : List ℤ) : Type 0 where
  pub all_zero : vs ≡ replicate 64 (pos 0)
  pub number : (book_refusal b ≡ n) ⊎ ((book_refusal b ≡ 0) × FirstRefusal (read_cells b cs) n)

unfoldable pub ValuesRight : (b : List ℕ) → List ScaleCell → (refusal : ℕ) → List ℤ → Type 0
ValuesRight b cs zero vs = ValuesAccepted b cs vs
ValuesRight b cs (suc n) vs = ValuesRefused b cs (suc n) vs

-- of what the conversion gives back: the values are right, and the cells past the book's columns are not read
pub record ConversionRight (b : List ℕ) (cs : List ScaleCell) (r : SheetValues) : Type 0 where
  pub right : ValuesRight b cs r.refusal r.values
  pub unread : (ds : List ScaleCell) → read_cells b ds ≡ read_cells b cs → sheet_values b ds ≡ r
