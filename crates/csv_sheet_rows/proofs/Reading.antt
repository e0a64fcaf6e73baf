-- The number in a field, read byte by byte: what is left of the text decides as the whole does.
use mathlib.Core.Path.{◌≡◌, refl, sym, ap, ◌∙◌}
use mathlib.Core.List.{List}
use Prim.Native.Nat.{ℕ, ◌+◌, ◌≤◌, ◌<◌}
use native.Mathlib.Numerals.{add-one}
use native.Mathlib.Omega.{arith}
use lib.ListN.{length, get_or, take, drop, replicate, drop_of_length-le}
use lib.Seq.{drop-cons}
use Rattle.csv_bytes.specs.Cells.{no_bytes, with_byte, read_from, read}
use Rattle.csv_bytes.specs.declared.Cell.{Cell}
use Rattle.buffers.specs.Placed.{placed}
use Rattle.buffers.proofs.Writing.{front_taken}
use Rattle.csv_cells.specs.Cells.{cell_text}
use Rattle.csv_cells.proofs.Celling.{few_bytes}

pub record Reading (text : List ℕ) (cell : Cell) (i : ℕ) : Type 0 where
  pub within : i ≤ length text
  pub counts : cell.size ≤ i
  pub later : read_from cell (drop i text) ≡ read text

pub reading_start : {text : List ℕ} {cell : Cell} → cell ≡ no_bytes → Reading text cell 0
unfolding read
reading_start e = rw e (record { within = omega arith; counts = omega arith; later = refl })

module _ {text : List ℕ} {cell : Cell} {i : ℕ} (d : Reading text cell i) where
  pub reading_more : i < length text → {next : Cell} → next ≡ with_byte cell (get_or text i 0) → Reading text next (i + 1)
  unfolding read_from
  reading_more h e =
      rw e
      (record { within = omega arith; counts = omega (arith, d.counts); later = rw (add-one i) (sym (ap (read_from cell) (drop-cons text i 0 h)) ∙ d.later) })

  pub reading_end : length text ≤ i → cell ≡ read text
  unfolding read_from
  reading_end h = sym (ap (read_from cell) (drop_of_length-le text {i = i} h)) ∙ d.later

-- a field that was put at the front of a buffer
pub field_there : (r f : ℕ) (csv : List ℕ) {n : ℕ} {now : List ℕ} → n ≡ length (cell_text r f csv) → now ≡ placed (replicate 200 0) 0 (cell_text r f csv) → take n now ≡ cell_text r f csv
field_there r f csv en e = front_taken (replicate 200 0) (cell_text r f csv) e en (few_bytes r f csv)

pub field_short : (r f : ℕ) (csv : List ℕ) {n : ℕ} {now : List ℕ} → n ≡ length (cell_text r f csv) → now ≡ placed (replicate 200 0) 0 (cell_text r f csv) → length (take n now) ≤ 200000
field_short r f csv en e = rw (field_there r f csv en e) (omega (arith, few_bytes r f csv))

pub cell_read : (r f : ℕ) (csv : List ℕ) {text : List ℕ} → text ≡ cell_text r f csv → {x : Cell} → x ≡ read text → x ≡ read (cell_text r f csv)
cell_read r f csv et e = e ∙ rw et
