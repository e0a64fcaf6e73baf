-- What the entry gives back at each of its returns, and that it is right.
use mathlib.Core.Path.{◌≡◌, refl, sym, ap, subst, ◌∙◌}
use mathlib.Core.Bool.{true, false}
use mathlib.Core.List.{List, ◌++◌, map}
use mathlib.Core.Logic.{◌⊎◌, inl, inr}
use Prim.Native.Nat.{ℕ, zero, suc, ◌+◌, ◌*◌, ◌-◌, ◌≤◌, ◌<◌}
use native.Mathlib.Nat.{zero-add}
use native.Mathlib.Omega.{arith}
use borrow.Author.Tests.{eq-eqb, ne_eqb, lt-ltb, le-ltb, le-leb, leb-false}
use lib.IntN.{ℤ, pos}
use lib.ListN.{length, take, replicate, length-replicate}
use lib.Seq.{take_at, drop_at}
use Rattle.integers.proofs.Filling.{drop_replicate}
use Rattle.frank_wolfe.specs.Vectors.{ones}
use Rattle.files.specs.Bytes.{between, all_in_range}
use Rattle.files.specs.Book.{columns, book_refusal}
use Rattle.files.specs.Sheet.{Sheet, WSH1}
use Rattle.files.specs.Fits.{BookFits}
use Rattle.files.proofs.Accepted.{book_accepted}
use Rattle.files.proofs.Refusal.{between_true, book_passed}
use Rattle.files.specs.Limits.{step_limit}
use Rattle.scale_cells.specs.declared.ScaleCell.{ScaleCell}
use Rattle.scale_cells.specs.Cells.{cell_value, read_cells, scale_refusal, values_after, sheet_values}
use Rattle.scale_cells.specs.Promise.{ValuesAccepted, ValuesRight}
use Rattle.scale_cells.proofs.Values.{scale_accepted, read_length, read_in_range, conversion_right}
use Rattle.buffers.specs.Placed.{placed}
use Rattle.buffers.proofs.Placing.{placed_next, placed_length}
use Rattle.sheet_output.specs.Output.{values_bytes, sheet_trailer, sheet_bytes}
use Rattle.sheet_output.specs.Back.{SheetOf, SheetReadsBack}
use Rattle.sheet_output.proofs.Values.{length_values_bytes}
use Rattle.sheet_output.proofs.Back.{sheet_reads_back}
use Rattle.scale_sheet.specs.declared.ScaleSheet.{ScaleSheet}
use Rattle.scale_sheet.specs.Sheets.{scale_sheet_refusal, asked, refused_sheet, sheet_after, scale_sheet}
use Rattle.scale_sheet.specs.Promise.{SheetAccepted, Reason, by_cells, by_steps, by_tolerance, SheetRightBy, SheetRight}

steps_outside : (k : ℕ) → between 1 step_limit k ≡ false → (k ≡ 0) ⊎ (step_limit < k)
unfolding between
steps_outside zero h = inl refl
steps_outside (suc k) h = inr (leb-false (suc k) step_limit (rw (le-leb 1 (suc k) (omega arith)) at h))

module _ (b : List ℕ) (cs : List ScaleCell) (k t : ℕ) (L : length cs ≡ 64) where
  abbrev Given : ScaleSheet → Type 0
  Given r = (r ≡ scale_sheet b cs k t) × SheetRight b cs k t r

  -- ---- refusals
  refused_by : (n : ℕ) → scale_sheet_refusal b cs k t ≡ suc n → Reason b cs k t (suc n) → Given (refused_sheet (suc n))
  unfolding scale_sheet sheet_after SheetRightBy
  refused_by n e why = (rw e refl, (refl, why))

  pub cells_refused : (n : ℕ) → scale_refusal b cs ≡ n → (n ≡ 0 → ⊥) → Given (refused_sheet n)
  unfolding sheet_values ValuesRight scale_sheet_refusal
  cells_refused zero e h = absurd (h refl)
  cells_refused (suc n) e h =
      refused_by n (rw (ne_eqb (scale_refusal b cs) 0 (λ z. h (sym e ∙ z))) e)
      (by_cells (suc n) (subst (λ (m : ℕ). ValuesRight b cs m (sheet_values b cs).values) e (conversion_right b cs L).right))

  accepted_values : scale_refusal b cs ≡ 0 → ValuesAccepted b cs (sheet_values b cs).values
  unfolding sheet_values ValuesRight
  accepted_values z = subst (λ (m : ℕ). ValuesRight b cs m (sheet_values b cs).values) z (conversion_right b cs L).right

  pub steps_refused : scale_refusal b cs ≡ 0 → between 1 step_limit k ≡ false → Given (refused_sheet 14)
  unfolding scale_sheet_refusal
  steps_refused z e = refused_by 13 (rw (eq-eqb (scale_refusal b cs) 0 z, e)) (by_steps z (steps_outside k e))

  pub tolerance_refused : scale_refusal b cs ≡ 0 → between 1 step_limit k ≡ true → 1024000000 < t → Given (refused_sheet 15)
  unfolding scale_sheet_refusal
  tolerance_refused z e l =
      let p = between_true 1 step_limit k e in
      refused_by 14 (rw (eq-eqb (scale_refusal b cs) 0 z, e, lt-ltb 1024000000 t l)) (by_tolerance z p.0 p.1 l)

-- what the last test leaves
pub record Passed (b : List ℕ) (cs : List ScaleCell) (k t : ℕ) : Type 0 where
  pub all_cells : length cs ≡ 64
  pub cells_passed : scale_refusal b cs ≡ 0
  pub steps_passed : between 1 step_limit k ≡ true
  pub tolerance_passed : t ≤ 1024000000

-- ---- the sheet
module _ {b : List ℕ} {cs : List ScaleCell} {k t : ℕ} (p : Passed b cs k t) where
  abbrev target : List ℤ
  target = map cell_value (read_cells b cs)

  abbrev bs : List ℕ
  bs = sheet_bytes (asked b cs k t)

  pub book : BookFits b
  book = book_accepted b (scale_accepted b cs p.all_cells p.cells_passed).0

  target_length : length target ≡ columns b
  target_length = read_length b cs p.all_cells p.cells_passed

  in_range : all_in_range target ≡ true
  in_range = read_in_range b cs p.all_cells p.cells_passed

  of : SheetOf (asked b cs k t) bs
  unfolding SheetReadsBack
  of =
      let q = between_true 1 step_limit k p.steps_passed in
      sheet_reads_back (asked b cs k t)
      (record {
        plain = ap ones (sym target_length);
        some_columns = omega (arith, target_length, book.some_columns);
        most_columns = omega (arith, target_length, book.most_columns);
        in_range = in_range;
        some_steps = q.0;
        most_steps = q.1;
        most_tolerance = p.tolerance_passed;
      })

  passed : scale_sheet_refusal b cs k t ≡ 0
  unfolding scale_sheet_refusal
  passed = rw (eq-eqb (scale_refusal b cs) 0 p.cells_passed, p.steps_passed, le-ltb 1024000000 t p.tolerance_passed)

  padding : List ℤ
  padding = replicate (64 - length target) (pos 0)

  own_values : (sheet_values b cs).values ≡ target ++ padding
  unfolding sheet_values values_after padding
  own_values = rw p.cells_passed refl

  made_is : take (length bs) (bs ++ replicate (144 - length bs) 0) ≡ bs
  made_is = take_at bs (replicate (144 - length bs) 0) (length bs) refl

  right : SheetAccepted b cs k t (sheet_after zero bs)
  unfolding sheet_after
  right =
      record {
        most_bytes = of.most_bytes;
        later_bytes = drop_at bs (replicate (144 - length bs) 0) (length bs) refl;
        accepted = rw made_is (sym (book_passed b bs (book_refusal b) refl (scale_accepted b cs p.all_cells p.cells_passed).0 (length target) _ target_length refl) ∙ of.accepted);
        target_is = rw (made_is, of.sheet_back, own_values) (sym (take_at target padding (columns b) target_length));
        factors_are = rw made_is (ap (λ (x : Sheet). x.factors) of.sheet_back);
        steps_are = rw made_is (ap (λ (x : Sheet). x.steps) of.sheet_back);
        tolerance_is = rw made_is (ap (λ (x : Sheet). x.tolerance) of.sheet_back);
        values_right = accepted_values b cs k t p.all_cells p.cells_passed;
      }

  -- ---- the bytes as they are put into an empty buffer: the values vs of the first c cells, then the trailer
  abbrev empty : List ℕ
  empty = replicate 144 0

  module _ {vs : List ℤ} (ev : vs ≡ (sheet_values b cs).values) {c : ℕ} (ec : c ≡ columns b) where
    pub few : c ≤ 64
    few = omega (arith, book.most_columns)

    front : take c vs ≡ target
    front = rw (ev, own_values) (take_at target padding c (target_length ∙ sym ec))

    pub front_in_range : all_in_range (take c vs) ≡ true
    front_in_range = rw front in_range

    body_length : length (values_bytes target) ≡ 2 * c
    body_length = length_values_bytes target ∙ (omega (arith, target_length))

    room : 2 * c + 16 ≤ length empty
    room = omega (arith, few, length-replicate {A = ℕ} 144 0)

    module _ {o₁ : List ℕ} (e₁ : o₁ ≡ placed empty 0 (values_bytes (take c vs))) where
      pub trailer_room : 2 * c + 16 ≤ length o₁
      trailer_room = rw (e₁, front) (omega (arith, room, placed_length empty 0 (values_bytes target) (omega (arith, body_length, room))))

      module _ {o₂ : List ℕ} (e₂ : o₂ ≡ placed o₁ (2 * c) (sheet_trailer WSH1 (2 * c) c k t)) where
        bytes_are : o₂ ≡ placed empty 0 bs
        unfolding sheet_bytes
        bytes_are =
            let l : length target ≡ c = target_length ∙ sym ec in
            rw (body_length, l)
            (placed_next empty 0 (values_bytes target) (sheet_trailer WSH1 (2 * c) c k t) (2 * c) (rw front at e₁) e₂ (omega (arith, body_length)) (omega (arith, body_length, room)))

        plain : placed empty 0 bs ≡ bs ++ replicate (144 - length bs) 0
        unfolding placed
        plain = ap (λ (l : List ℕ). bs ++ l) (rw zero-add (drop_replicate (length bs) 144 0 of.most_bytes))

        pub made_sheet : Given b cs k t p.all_cells (record { refusal = 0; len = 2 * c + 16; bytes = o₂ })
        unfolding scale_sheet sheet_after SheetRightBy
        made_sheet =
            let l : 2 * c + 16 ≡ length bs = omega (arith, of.size, target_length) in
            let e : ◌≡◌ {A = ScaleSheet} (record { refusal = 0; len = 2 * c + 16; bytes = o₂ }) (sheet_after zero bs) = rw (l, bytes_are, plain) in
            (e ∙ rw passed refl, subst (λ (x : ScaleSheet). SheetRight b cs k t x) (sym e) right)
