-- Derived files: what the parts written make, and that they are not refused.
use mathlib.Core.Path.{◌≡◌, refl, sym, ap, ◌∙◌}
use mathlib.Core.Bool.{Bool, true, false, cond}
use mathlib.Core.List.{List, [], ◌++◌, map}
use Prim.Native.Nat.{ℕ, ◌+◌, ◌*◌, ◌≤◌}
use native.Mathlib.Omega.{arith}
use borrow.Author.Tests.{eqb-true, eqb-false}
use lib.Dec.{eqb}
use lib.ListN.{length, take, get_or, length-append, length-map}
use mir.Syntax.{w8}
use mir.Val.{Fits}
use Rattle.frank_wolfe.specs.Vectors.{ones, sum}
use Rattle.files.specs.Book.{boats, columns, rows, book_refusal}
use Rattle.files.specs.Fits.{SheetFits}
use Rattle.files.specs.Sheet.{sheet, WSH1, target_offset, sheet_refusal, files_refusal}
use Rattle.files.proofs.Access.{target_at}
use Rattle.files.proofs.Accepted.{book_accepted, files_accepted}
use Rattle.buffers.specs.Placed.{placed}
use Rattle.buffers.proofs.Placing.{placed_next}
use Rattle.sheet_output.specs.Output.{values_bytes, sheet_trailer, sheet_bytes}
use Rattle.sheet_output.specs.Back.{SheetFit, SheetReadsBack}
use Rattle.sheet_output.proofs.Values.{length_values_bytes}
use Rattle.sheet_output.proofs.Back.{sheet_trailer_length, sheet_reads_back}
use Rattle.buffers.proofs.Writing.{front_taken}
use Rattle.method.specs.Plain.{plain_problem}
use Rattle.repeated_columns.specs.Repeating.{repeated, plain_of}
use Rattle.repeated_columns.proofs.Repeating.{length_repeated}
use Rattle.book_output.specs.Output.{rows_bytes, book_trailer, book_bytes}
use Rattle.book_output.specs.Back.{RowsFit, BookReadsBack}
use Rattle.book_output.proofs.Back.{book_trailer_length, book_reads_back}
use Rattle.derived_files.specs.Places.{places, picked, cells, picked_rows_bytes, Inside, Below}
use Rattle.derived_files.specs.Derived.{derived_rows, derived_book, derived, derived_sheet}
use Rattle.derived_files.specs.Accepted.{FactorsFit, BookDerived, SheetDerived, FilesDerived, FilesTwin}
use Rattle.derived_files.proofs.Columns.{length_places}
use Rattle.derived_files.proofs.Repeating.{places_below, picked_repeated, repeated_in_range, rows_in_range, Every, map_every, map_kept}
use Rattle.derived_files.proofs.Rows.{cells_are, cells_most, length_picked_rows}

-- ---- the list of places, as it is used: its first `count` bytes
module _ (out fs : List ℕ) {count : ℕ} {now : List ℕ} (ec : count ≡ sum fs) (room : sum fs ≤ length out) (e : now ≡ placed out 0 (places 0 fs)) where
  pub places_taken : take count now ≡ places 0 fs
  places_taken = front_taken out (places 0 fs) e (ec ∙ sym (length_places 0 fs)) (omega (arith, length_places 0 fs))

  pub places_long : count ≡ length (take count now)
  places_long = ec ∙ sym (length_places 0 fs) ∙ sym (ap length places_taken)

pub places_serve : (fs : List ℕ) {c : ℕ} {ps : List ℕ} → ps ≡ places 0 fs → length fs ≡ c → Below c ps
places_serve fs e l k h = rw e (omega (arith, places_below 0 fs k (omega (arith, ap length e))))

-- ---- a derived book
pub derived_cells : (fs b : List ℕ) → book_refusal b ≡ 0 → sum fs ≤ 64 → {n count : ℕ} → n ≡ boats b → count ≡ sum fs → n * count ≤ 16384
derived_cells fs b ok few en ec = cells_most (omega (arith, (book_accepted b ok).most_boats)) (omega arith)

module _ (fs b : List ℕ) (ok : book_refusal b ≡ 0) (l : length fs ≡ columns b) where
  rows_even : Every (λ v. length v ≡ length fs) (rows b)
  rows_even k h = (book_accepted b ok).row_length k (omega (arith, (book_accepted b ok).row_count)) ∙ sym l

  rows_picked : map (picked (places 0 fs)) (rows b) ≡ derived_rows fs b
  unfolding derived_rows
  rows_picked = map_every (picked (places 0 fs)) (repeated fs) (rows b) (λ k h. picked_repeated fs (get_or (rows b) k []) (rows_even k h))

  row_count : length (derived_rows fs b) ≡ boats b
  unfolding derived_rows
  row_count = length-map (rows b) (repeated fs) ∙ (book_accepted b ok).row_count

  rows_fit : 1 ≤ sum fs → sum fs ≤ 64 → RowsFit (derived_rows fs b) (sum fs)
  unfolding derived_rows
  rows_fit p q =
      let k = book_accepted b ok in
      record {
        some_boats = omega (arith, row_count, k.some_boats);
        most_boats = omega (arith, row_count, k.most_boats);
        some_columns = p;
        most_columns = q;
        row_length = map_kept (λ v. length v ≡ length fs) (λ v. length v ≡ sum fs) (repeated fs) (λ v h. length_repeated fs v h) (rows b) rows_even;
        in_range = rows_in_range fs (rows b) k.rows_in_range;
      }

  -- as it is written
  module _ {n count : ℕ} {ps : List ℕ} (en : n ≡ boats b) (ec : count ≡ sum fs) (few : sum fs ≤ 64) (ep : ps ≡ places 0 fs) where
    bytes_are : picked_rows_bytes ps b ≡ rows_bytes (derived_rows fs b)
    bytes_are = rw ep (ap rows_bytes rows_picked)

    bytes_long : length (rows_bytes (derived_rows fs b)) ≡ 2 * (n * count)
    bytes_long =
        let q : length ps ≡ count = ap length ep ∙ length_places 0 fs ∙ sym ec in
        ap length (sym bytes_are) ∙ length_picked_rows ps (rows b) ∙ rw (q, (book_accepted b ok).row_count, en)

    derived_are : rows_bytes (derived_rows fs b) ++ book_trailer (2 * (n * count)) n count ≡ derived_book fs b
    unfolding derived_book book_bytes
    derived_are = rw (bytes_long, row_count, en, ec)

    pub book_put : (out : List ℕ) {now new : List ℕ} → 32780 ≤ length out → now ≡ placed out 0 (picked_rows_bytes ps b) → new ≡ placed now (2 * (n * count)) (book_trailer (2 * (n * count)) n count) →
        (2 * (n * count) + 12 ≡ length (derived_book fs b)) × (new ≡ placed out 0 (derived_book fs b))
    book_put out r e f =
        let body = rows_bytes (derived_rows fs b) in
        let foot = book_trailer (2 * (n * count)) n count in
        let most : n * count ≤ 16384 = derived_cells fs b ok few en ec in (
          omega (arith, ap length derived_are, length-append body foot, bytes_long, book_trailer_length (2 * (n * count)) n count),
          placed_next out 0 body foot (2 * (n * count)) (rw bytes_are at e) f (omega (arith, bytes_long)) (omega (arith, bytes_long)) ∙ rw derived_are,
        )

pub book_derived : BookDerived
unfolding BookDerived derived_book BookReadsBack
book_derived fs b ok f = book_reads_back (derived_rows fs b) (sum fs) (rows_fit fs b ok f.each_column (omega arith) (omega arith))

-- ---- a derived sheet
module _ (fs s : List ℕ) (known : SheetFits (length fs) s) where
  target_long : length (derived fs s).target ≡ sum fs
  unfolding derived
  target_long = length_repeated fs (sheet s).target known.target_length

  sheet_fit : 1 ≤ sum fs → sum fs ≤ 64 → SheetFit (derived fs s)
  unfolding derived
  sheet_fit g h =
      record {
        plain = ap ones (sym target_long);
        some_columns = omega (arith, target_long);
        most_columns = omega (arith, target_long);
        in_range = repeated_in_range fs (sheet s).target known.target_in_range;
        some_steps = known.some_steps;
        most_steps = known.most_steps;
        most_tolerance = known.most_tolerance;
      }

  pub target_inside : {from : ℕ} {ps : List ℕ} → from ≡ target_offset s → ps ≡ places 0 fs → Inside s from ps
  target_inside ef ep k h = omega (arith, places_serve fs ep refl k h, known.whole, known.same_columns)

  -- as it is written
  module _ (f : (j : ℕ) → Fits w8 (get_or s j 0)) {from count : ℕ} {ps : List ℕ} (ef : from ≡ target_offset s) (ec : count ≡ sum fs) (few : sum fs ≤ 64) (ep : ps ≡ places 0 fs) where
    target_cells : cells s from ps ≡ values_bytes (derived fs s).target
    unfolding derived
    target_cells =
        cells_are s f from (length fs) ps (places_serve fs ep refl)
        ∙ rw (ef, ← known.same_columns, ← target_at s, ep, picked_repeated fs (sheet s).target known.target_length)

    sheet_are : values_bytes (derived fs s).target ++ sheet_trailer WSH1 (2 * count) count (sheet s).steps (sheet s).tolerance ≡ derived_sheet fs s
    unfolding derived_sheet sheet_bytes derived
    sheet_are = rw (length_values_bytes (derived fs s).target, target_long, ec)

    pub sheet_put : (out : List ℕ) {now new : List ℕ} → 144 ≤ length out → now ≡ placed out 0 (cells s from ps) → {steps tolerance : ℕ} → steps ≡ (sheet s).steps → tolerance ≡ (sheet s).tolerance →
        new ≡ placed now (2 * count) (sheet_trailer WSH1 (2 * count) count steps tolerance) → (2 * count + 16 ≡ length (derived_sheet fs s)) × (new ≡ placed out 0 (derived_sheet fs s))
    sheet_put out r e es et g =
        let body = values_bytes (derived fs s).target in
        let foot = sheet_trailer WSH1 (2 * count) count (sheet s).steps (sheet s).tolerance in
        let long : length body ≡ 2 * count = omega (arith, length_values_bytes (derived fs s).target, target_long) in (
          omega (arith, ap length sheet_are, length-append body foot, sheet_trailer_length WSH1 (2 * count) count (sheet s).steps (sheet s).tolerance refl),
          placed_next out 0 body foot (2 * count) (rw target_cells at e) (rw (es, et) at g) (omega arith) (omega arith) ∙ rw sheet_are,
        )

pub sheet_derived : SheetDerived
unfolding SheetDerived derived_sheet SheetReadsBack
sheet_derived c fs s known f = sheet_reads_back (derived fs s) (sheet_fit fs s (rw f.each_column known) (omega arith) (omega arith))

-- ---- both
pub book_passed : (b s : List ℕ) → files_refusal b s ≡ 0 → book_refusal b ≡ 0
unfolding files_refusal
book_passed b s e = by (eqb (book_refusal b) 0) refl e
  where
    by : (t : Bool) → eqb (book_refusal b) 0 ≡ t → cond t (sheet_refusal (columns b) s) (book_refusal b) ≡ 0 → book_refusal b ≡ 0
    by true t e = eqb-true (book_refusal b) 0 t
    by false t e = absurd (eqb-false (book_refusal b) 0 t e)

pub files_derived : FilesDerived
unfolding FilesDerived BookDerived SheetDerived files_refusal
files_derived fs b s ok f =
    let k = book_derived fs b (book_passed b s ok) f in
    let known = (files_accepted b s ok).1 in
    let t = sheet_derived (columns b) fs s known f in
    rw (k.accepted, k.columns_back, ← target_long fs s (rw f.each_column known)) t.accepted

-- ---- by the sheet's own factors
own_fit : (c : ℕ) (s : List ℕ) → SheetFits c s → FactorsFit c (sheet s).factors
own_fit c s g = record { each_column = g.factor_count; some_columns = omega arith; most_columns = omega arith }

pub files_twin : FilesTwin
unfolding FilesTwin FilesDerived BookDerived SheetDerived derived_rows derived plain_problem plain_of
files_twin b s ok =
    let fs = (sheet s).factors in
    let known = (files_accepted b s ok).1 in
    let f = own_fit (columns b) s known in
    let k = book_derived fs b (book_passed b s ok) f in
    let t = sheet_derived (columns b) fs s known f in
    record {
      book_fits = k.most_bytes;
      sheet_fits = t.most_bytes;
      accepted = files_derived fs b s ok f;
      same_boats = k.boats_back ∙ row_count fs b (book_passed b s ok) f.each_column;
      plain_twin = λ m. rw (k.columns_back, k.rows_back, t.sheet_back);
    }
