-- What is looked for in a CSV, and the lines of a fault and of a sheet.
use mathlib.Core.Path.{◌≡◌, refl, sym}
use mathlib.Core.Bool.{Bool, true, false, cond}
use mathlib.Core.List.{List, []}
use Prim.Native.Nat.{ℕ, ◌≤◌, ◌<◌}
use native.Mathlib.Omega.{arith}
use borrow.Author.Tests.{eq-eqb, ne_eqb, lt-ltb, le-ltb}
use lib.Dec.{ltb}
use lib.ListN.{length, take, replicate}
use Rattle.buffers.specs.Placed.{placed}
use Rattle.buffers.proofs.Placing.{placed_nil}
use Rattle.buffers.proofs.Writing.{front_inside, front_taken}
use Rattle.text.specs.Lines.{number_line}
use Rattle.text.specs.Texts.{Holds, Adds}
use Rattle.text.specs.declared.Text.{Text}
use Rattle.text.proofs.Texts.{adds_both, adds_to_empty}
use Rattle.csv_front_text.specs.declared.Front.TheVariants.{Whole}
use Rattle.csv_book_words.specs.Words.{wants_value, front_line}
use Rattle.csv_cells.specs.Cells.{cell_text}
use Rattle.csv_cells.proofs.Celling.{few_bytes}
use Rattle.csv_sheet_rows.specs.Kinds.{kind_of}
use Rattle.csv_fleet_tokens.specs.declared.Fault.{Fault}
use Rattle.csv_fleet_tokens.specs.declared.Fault.TheVariants.{Unknown}
use Rattle.csv_fleet_tokens.specs.Faults.{fault_number}
use Rattle.csv_sheet.specs.Outcomes.{Outcome}
use Rattle.csv_sheet_words.specs.Words.{wants_row, wants_column, row_line, column_line}
use Rattle.csv_sheet_text.specs.Lines.{looked, row_name, row_fault, column_fault, SHEET, FACTORS, STEPS, TOLERANCE, sheet_lines}

-- ---- what is looked for
module _ (w : Bool) (r f : ℕ) (csv out : List ℕ) where
  pub not_looked : w ≡ false → (0 ≡ length (looked w r f csv)) × (out ≡ placed out 0 (looked w r f csv))
  unfolding looked
  not_looked e = rw e (refl, sym (placed_nil out 0))

  module _ (e : w ≡ true) where
    pub too_long : 200000 < length csv → (0 ≡ length (looked w r f csv)) × (out ≡ placed out 0 (looked w r f csv))
    unfolding looked
    too_long h = rw (e, lt-ltb 200000 (length csv) h) (refl, sym (placed_nil out 0))

    pub cell_looked : length csv ≤ 200000 → {n : ℕ} → n ≡ length (cell_text r f csv) → {new : List ℕ} → new ≡ placed out 0 (cell_text r f csv) →
        (n ≡ length (looked w r f csv)) × (new ≡ placed out 0 (looked w r f csv))
    unfolding looked
    cell_looked h en ew = rw (e, le-ltb 200000 (length csv) h) (en, ew)

few_if : (w b : Bool) (xs : List ℕ) → length xs ≤ 200 → length {A = ℕ} (cond w (cond b [] xs) []) ≤ 200
few_if true true xs h = omega arith
few_if true false xs h = h
few_if false b xs h = omega arith

pub few_looked : (w : Bool) (r f : ℕ) (csv : List ℕ) → length (looked w r f csv) ≤ 200
unfolding looked
few_looked w r f csv = few_if w (ltb 200000 (length csv)) (cell_text r f csv) (few_bytes r f csv)

-- what was looked for stands at the front of a buffer of 200 bytes
module _ (w : Bool) (r f : ℕ) (csv : List ℕ) {n : ℕ} {new : List ℕ} (en : n ≡ length (looked w r f csv)) (e : new ≡ placed (replicate 200 0) 0 (looked w r f csv)) where
  pub looked_inside : n ≤ length new
  looked_inside = front_inside (replicate 200 0) (looked w r f csv) e en (few_looked w r f csv)

  pub looked_is : take n new ≡ looked w r f csv
  looked_is = front_taken (replicate 200 0) (looked w r f csv) e en (few_looked w r f csv)

  pub looked_few : length (take n new) ≤ 200
  looked_few = rw looked_is (few_looked w r f csv)

  pub looked_count : n ≡ length (take n new)
  looked_count = rw looked_is en

-- ---- the lines
pub row_fault_told : (csv : List ℕ) (m : Outcome) {bw cw vw : Bool} → bw ≡ wants_row m.fault → {row : List ℕ} → row ≡ looked bw m.row 0 csv → {k : ℕ} → k ≡ kind_of row →
    cw ≡ wants_column m.fault k → vw ≡ wants_value m.fault → {column value : List ℕ} → column ≡ looked cw 0 m.field csv → value ≡ looked vw m.row m.field csv →
    {t : Text} → Holds (row_line m k row column value) t → Holds (row_fault csv m) t
unfolding row_fault row_name
row_fault_told csv m er fr ek ec ev fc fv h = rw (← er, ← fr, ← ek, ← ec, ← ev, ← fc, ← fv) h

-- no other fault has the number of one
pub not_unknown : (f : Fault) → (f ≡ Unknown → ⊥) → fault_number f ≡ 20 → ⊥
not_unknown f n e = grind (arith, n, e)

module _ (fleet csv : List ℕ) (m : Outcome) {name : List ℕ} {t : Text} where
  pub of_sheet : m.fault ≡ 20 → name ≡ looked true 0 m.field csv → Holds (column_line m.fault name) t → Holds (column_fault fleet csv m) t
  unfolding column_fault
  of_sheet e n h = rw (eq-eqb m.fault 20 e, ← n) h

  pub of_fleet : (m.fault ≡ 20 → ⊥) → name ≡ looked true 0 m.field fleet → Holds (column_line m.fault name) t → Holds (column_fault fleet csv m) t
  unfolding column_fault
  of_fleet e n h = rw (ne_eqb m.fault 20 e, ← n) h

-- ---- the lines of a sheet
pub sheet_told : (m : Outcome) {t₀ t₁ t₂ t₃ t₄ t₅ : Text} → Holds [] t₀ → Adds t₀ (number_line SHEET m.columns) t₁ → Adds t₁ (number_line FACTORS m.factors) t₂ →
    Adds t₂ (number_line STEPS m.steps) t₃ → Adds t₃ (number_line TOLERANCE m.tolerance) t₄ → Adds t₄ (front_line Whole) t₅ → Holds (sheet_lines m) t₅
unfolding sheet_lines
sheet_told m e a b c d f = adds_to_empty e (adds_both a (adds_both b (adds_both c (adds_both d f))))
