-- What the entry gives back, of a book that is refused and of one that is not.
use mathlib.Core.Path.{◌≡◌, sym, subst, ◌∙◌}
use mathlib.Core.List.{List, map}
use Prim.Native.Nat.{ℕ}
use borrow.Author.Tests.{eq-eqb, ne_eqb}
use lib.ListN.{length, take}
use Rattle.files.specs.Book.{columns, book_refusal}
use Rattle.files.specs.Fits.{BookFits}
use Rattle.files.proofs.Accepted.{book_accepted}
use Rattle.scale_cells.specs.declared.ScaleCell.{ScaleCell}
use Rattle.scale_cells.specs.declared.SheetValues.{SheetValues}
use Rattle.scale_cells.specs.Cells.{cell_value, scale_refusal, sheet_values, read_cells}
use Rattle.scale_cells.specs.Promise.{ConversionRight}
use Rattle.scale_cells.proofs.Values.{conversion_right}
use Rattle.scale_conversion.specs.Outcomes.{values_of}
use Rattle.scale_conversion.proofs.Converting.{zeros, kept_zeros}

module _ (b : List ℕ) (cs : List ScaleCell) (L : length cs ≡ 64) (r : ℕ) (er : r ≡ book_refusal b) where
  abbrev Given : SheetValues → Type 0
  Given v = (v ≡ sheet_values b cs) × ConversionRight b cs v

  with_promise : {v : SheetValues} → v ≡ sheet_values b cs → Given v
  with_promise {v} e = (e, subst (λ (x : SheetValues). ConversionRight b cs x) (sym e) (conversion_right b cs L))

  pub book_refuses : (r ≡ 0 → ⊥) → Given (record { refusal = r; values = zeros })
  unfolding sheet_values scale_refusal
  book_refuses n = with_promise (rw (← er, ne_eqb r 0 n, kept_zeros r (map cell_value (read_cells b cs)) n))

  pub book_passes : r ≡ 0 → (c : ℕ) → c ≡ columns b → {v : SheetValues} → v ≡ values_of (take c cs) → Given v
  unfolding sheet_values scale_refusal values_of
  book_passes z c ec e = with_promise (e ∙ rw (ec, ← er, eq-eqb r 0 z))

  pub book_fits : r ≡ 0 → BookFits b
  book_fits z = book_accepted b (sym er ∙ z)
