-- What is looked for in a CSV, the line of its fault, and the lines of its book.
use mathlib.Core.Path.{◌≡◌, refl, sym}
use mathlib.Core.Bool.{Bool, true, false, cond}
use mathlib.Core.List.{List, []}
use Prim.Native.Nat.{ℕ, ◌≤◌, ◌<◌}
use native.Mathlib.Omega.{arith}
use borrow.Author.Tests.{lt-ltb, le-ltb}
use lib.Dec.{ltb}
use lib.ListN.{length}
use Rattle.buffers.specs.Placed.{placed}
use Rattle.buffers.proofs.Placing.{placed_nil}
use Rattle.text.specs.Lines.{pair_line}
use Rattle.text.specs.Texts.{Holds, Adds}
use Rattle.text.specs.declared.Text.{Text}
use Rattle.text.proofs.Texts.{adds_both, adds_to_empty}
use Rattle.csv_fields.specs.Fields.{field_text}
use Rattle.csv_fields.proofs.Fielding.{few_bytes}
use Rattle.csv_book.specs.Books.{Made}
use Rattle.csv_book_words.specs.Words.{wants_boat, wants_column, wants_value, fault_line, front_line}
use Rattle.csv_book_text.specs.Faults.{looked, fleet_fault, FLEET, book_lines}

-- ---- what is looked for
module _ (w : Bool) (l f : ℕ) (csv out : List ℕ) where
  pub not_looked : w ≡ false → (0 ≡ length (looked w l f csv)) × (out ≡ placed out 0 (looked w l f csv))
  unfolding looked
  not_looked e = rw e (refl, sym (placed_nil out 0))

  module _ (e : w ≡ true) where
    pub too_long : 200000 < length csv → (0 ≡ length (looked w l f csv)) × (out ≡ placed out 0 (looked w l f csv))
    unfolding looked
    too_long h = rw (e, lt-ltb 200000 (length csv) h) (refl, sym (placed_nil out 0))

    pub field_looked : length csv ≤ 200000 → {n : ℕ} → n ≡ length (field_text l f csv) → {new : List ℕ} → new ≡ placed out 0 (field_text l f csv) →
        (n ≡ length (looked w l f csv)) × (new ≡ placed out 0 (looked w l f csv))
    unfolding looked
    field_looked h en ew = rw (e, le-ltb 200000 (length csv) h) (en, ew)

few_if : (w b : Bool) (xs : List ℕ) → length xs ≤ 200 → length {A = ℕ} (cond w (cond b [] xs) []) ≤ 200
few_if true true xs h = omega arith
few_if true false xs h = h
few_if false b xs h = omega arith

pub few_looked : (w : Bool) (l f : ℕ) (csv : List ℕ) → length (looked w l f csv) ≤ 200
unfolding looked
few_looked w l f csv = few_if w (ltb 200000 (length csv)) (field_text l f csv) (few_bytes l f csv)

pub fault_told : (csv : List ℕ) (m : Made) {bw cw vw : Bool} → bw ≡ wants_boat m.fault m.field m.columns → cw ≡ wants_column m.fault m.field m.columns → vw ≡ wants_value m.fault →
    {b c v : List ℕ} → b ≡ looked bw m.line 0 csv → c ≡ looked cw 0 m.field csv → v ≡ looked vw m.line m.field csv → {t : Text} → Holds (fault_line m b c v) t → Holds (fleet_fault csv m) t
unfolding fleet_fault
fault_told csv m eb ec ev fb fc fv h = rw (← eb, ← ec, ← ev, ← fb, ← fc, ← fv) h

-- ---- the lines of a book
pub book_told : (m : Made) {t₀ t₁ t₂ : Text} → Holds [] t₀ → Adds t₀ (pair_line FLEET m.boats m.columns) t₁ → Adds t₁ (front_line m.front) t₂ → Holds (book_lines m) t₂
unfolding book_lines
book_told m e a b = adds_to_empty e (adds_both a b)
