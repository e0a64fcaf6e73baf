-- What the entry gives back at each of its returns, and that the sheet is accepted and asks for what the CSVs ask for.
use mathlib.Core.Path.{◌≡◌, refl, sym, ap, subst, ◌∙◌}
use mathlib.Core.Bool.{Bool, true, false, cond}
use mathlib.Core.List.{List, [], ◌∷◌, map}
use mathlib.Core.Logic.{inl, inr}
use Prim.Native.Nat.{ℕ, zero, suc, ◌≤◌, ◌<◌}
use native.Mathlib.Omega.{arith}
use borrow.Author.Tests.{eq-eqb, ne_eqb, lt-ltb, le-ltb, ltb-false}
use lib.Dec.{ltb}
use lib.IntN.{ℤ, pos}
use lib.ListN.{length, take, get_or, length-append}
use Rattle.frank_wolfe.specs.Vectors.{ones, sum}
use Rattle.files.specs.Bytes.{between}
use Rattle.files.specs.Limits.{file_limit}
use Rattle.files.specs.Book.{columns, book_refusal}
use Rattle.files.specs.Sheet.{Sheet, sheet, files_refusal, sheet_refusal}
use Rattle.files.proofs.Refusal.{between_true}
use Rattle.buffers.specs.Placed.{placed}
use Rattle.sheet_output.specs.Output.{edition_bytes}
use Rattle.sheet_output.specs.Back.{FactoredFit, EditionOf, EditionReadsBack}
use Rattle.sheet_output.specs.Front.{SameWithFront, SheetTakesFront}
use Rattle.sheet_output.proofs.Back.{edition_reads_back}
use Rattle.sheet_output.proofs.Front.{sheet_takes_front}
use Rattle.buffers.proofs.Writing.{front_taken}
use Rattle.csv_fleet_tokens.specs.Table.{Table}
use Rattle.csv_fleet_reader.specs.Fleet.{last_table}
use Rattle.csv_front_text.specs.declared.Front.TheVariants.{Nothing}
use Rattle.csv_book.specs.Books as book
use Rattle.csv_book.specs.Books.{csv_book}
use Rattle.csv_book.proofs.Making.{book_accepted}
use Rattle.csv_numbers.specs.Numbers.{SaysValue}
use Rattle.csv_fleet_round_trip.specs.Back.{All}
use Rattle.csv_cells.specs.Cells.{cell_text}
use Rattle.csv_cells_round_trip.specs.Writing.{rows_csv}
use Rattle.csv_cells_round_trip.specs.Back.{RowFits, RowsReadBack}
use Rattle.csv_cells_round_trip.proofs.Back.{rows_read_back}
use Rattle.csv_sheet_rows.specs.Findings.{Found}
use Rattle.csv_sheet_rows.specs.Rows.{sheet_names, rows_fault}
use Rattle.csv_sheet_rows.specs.Sound.{SaidOrOpen}
use Rattle.csv_sheet_rows.proofs.Soundness.{sound}
use Rattle.csv_column_match.specs.Misfits.{Misfit}
use Rattle.csv_column_match.specs.Match.{mismatch}
use Rattle.csv_sheet.specs.Outcomes.{Outcome}
use Rattle.csv_sheet_parts.specs.Parts.{cell_at, row_for, value_at, target_of, factor_at, has_factors, factors_of, steps_of, tolerance_for, tolerance_of, asked_at, sheet_at}
use Rattle.csv_sheet.specs.Sheets.{places, asked, nothing_made, total_fault, made_by, made_of_columns, made_of_rows, made_for_fleet, sheet_made, output_at, output_by}
use Rattle.csv_sheet_parts.specs.Ready.{Ready}
use Rattle.csv_sheet.specs.Promise.{FiguresSaid, SheetAccepted, SheetRightBy, SheetRight}
use Rattle.csv_sheet_parts.proofs.Bounds.{target_long, factors_long, target_in, steps_some, steps_few, factors_plain}
use Rattle.csv_sheet.proofs.Making.{places_long, ready, matched}

-- an element of a list that is there, with any defaults
get_d_map : {A : Type 0} (f : ℕ → A) (xs : List ℕ) (i : ℕ) (a : A) (b : ℕ) → i < length xs → get_or (map f xs) i a ≡ f (get_or xs i b)
get_d_map f [] i a b h = absurd (omega arith)
get_d_map f (x ∷ xs) zero a b h = refl
get_d_map f (x ∷ xs) (suc i) a b h = get_d_map f xs i a b (omega arith)

-- ---- what the fields of a CSV say, said by the fields that were written
again : {v : ℤ} {w u : List ℕ} → w ≡ u → SaysValue v w → SaysValue v u
again {v} e s = subst (λ (x : List ℕ). SaysValue v x) e s

value_again : {v : ℤ} {w u : List ℕ} {r factor : ℕ} → w ≡ u → SaidOrOpen v w r factor → SaidOrOpen v u r factor
value_again {v} {r = r} {factor = factor} e s = subst (λ (x : List ℕ). SaidOrOpen v x r factor) e s

said_again : {fleet csv : List ℕ} {s : Sheet} (rows : List (List (List ℕ))) → All RowFits rows → csv ≡ rows_csv rows → FiguresSaid (λ r f. cell_text r f csv) fleet csv s →
    FiguresSaid (λ r f. get_or (get_or rows r []) f []) fleet csv s
unfolding RowsReadBack
said_again {fleet} {csv} {s} rows i e g =
    let same : (r f : ℕ) → cell_text r f csv ≡ get_or (get_or rows r []) f [] = λ r f. ap (cell_text r f) e ∙ (rows_read_back rows i).cells_back r f in
    record {
      values = λ j h. value_again (same _ _) (g.values j h);
      factors = λ n j h. again (same _ _) (g.factors n j h);
      steps = again (same _ _) g.steps;
      tolerance_number = g.tolerance_number;
      tolerance_said = again (same _ _) g.tolerance_said;
      tolerance = g.tolerance;
    }

-- ---- the factor of a column whose value is left open
with_factor : (csv : List ℕ) (f : ℕ) {v : ℤ} {text : List ℕ} → SaidOrOpen v text (row_for 2 csv) (cell_at (row_for 2 csv) f csv).magnitude → SaidOrOpen v text (row_for 2 csv) (factor_at (row_for 2 csv) csv f)
unfolding factor_at
with_factor csv f (inl s) = inl s
with_factor csv f (inr o) =
    inr
    (record {
      no_text = o.no_text;
      value_none = o.value_none;
      factors_there = o.factors_there;
      factor_none = rw (ne_eqb (row_for 2 csv) 0 o.factors_there) o.factor_none;
    })

-- ---- the sheet of a CSV without fault
module _ {ps csv : List ℕ} (d : Ready ps csv) (z : total_fault ps csv ≡ 0) where
  total_fits : (between 1 64 (sum (factors_of ps csv)) ≡ true) × (tolerance_of ps csv ≤ 1024000000)
  unfolding total_fault
  total_fits = by (between 1 64 (sum (factors_of ps csv))) (ltb 1024000000 (tolerance_of ps csv)) refl refl z
    where
      by : (a b : Bool) → between 1 64 (sum (factors_of ps csv)) ≡ a → ltb 1024000000 (tolerance_of ps csv) ≡ b → ◌≡◌ {A = ℕ} (cond a (cond b 23 0) 22) 0 →
          (between 1 64 (sum (factors_of ps csv)) ≡ true) × (tolerance_of ps csv ≤ 1024000000)
      by true true p q e = absurd (omega arith)
      by true false p q e = (p, ltb-false 1024000000 (tolerance_of ps csv) q)
      by false b p q e = absurd (omega arith)

  fit : FactoredFit (asked_at ps csv)
  unfolding asked_at
  fit =
      let t = between_true 1 64 (sum (factors_of ps csv)) total_fits.0 in
      record {
        each_column = factors_long ps csv ∙ sym (target_long ps csv);
        some_columns = omega (arith, target_long ps csv, d.some);
        most_columns = omega (arith, target_long ps csv, d.few);
        in_range = target_in d;
        some_factor = t.0;
        few_factors = t.1;
        some_steps = steps_some d;
        most_steps = steps_few d;
        most_tolerance = total_fits.1;
      }

  plain : has_factors csv ≡ false → (asked_at ps csv).factors ≡ ones (length (asked_at ps csv).target)
  unfolding asked_at
  plain e = factors_plain ps csv e ∙ ap ones (sym (target_long ps csv))

  abbrev bytes : List ℕ
  bytes = edition_bytes (has_factors csv) (asked_at ps csv)

  edition : EditionOf (has_factors csv) (asked_at ps csv) bytes
  unfolding EditionReadsBack
  edition = edition_reads_back (has_factors csv) (asked_at ps csv) fit plain

  asked_long : length (asked_at ps csv).target ≡ length ps
  unfolding asked_at
  asked_long = target_long ps csv

  pub figures : (fleet : List ℕ) → ps ≡ places fleet csv → FiguresSaid (λ r f. cell_text r f csv) fleet csv (asked_at ps csv)
  unfolding asked_at target_of factors_of factor_at value_at steps_of tolerance_for
  figures fleet e =
      let g = sound csv d.faultless in
      record {
        values = λ i h.
            rw (← e, get_d_map (value_at (row_for 0 csv) csv) ps i (pos 0) 0 (rw e h), get_d_map (factor_at (row_for 2 csv) csv) ps i 0 0 (rw e h))
            (with_factor csv (get_or ps i 0) (g.values_said (get_or ps i 0) (d.first i (rw e h)) (d.last i (rw e h))));
        factors = λ n i h.
            rw (← e, get_d_map (factor_at (row_for 2 csv) csv) ps i 0 0 (rw e h), ne_eqb (row_for 2 csv) 0 n) (g.factors_said n (get_or ps i 0) (d.first i (rw e h)) (d.last i (rw e h)));
        steps = g.steps_said;
        tolerance_number = (cell_at (row_for 4 csv) 1 csv).magnitude;
        tolerance_said = g.tolerance_said;
        tolerance = refl;
      }

  pub sheet_short : length (sheet_at ps csv) ≤ file_limit
  unfolding sheet_at
  sheet_short = omega (arith, length-append csv bytes, edition.most_bytes, d.short)

  pub with_front : SameWithFront (length ps) csv bytes
  unfolding SheetTakesFront sheet_at
  with_front = sheet_takes_front (length ps) csv bytes (rw asked_long at edition.accepted) sheet_short

  pub asks_for : (sheet_refusal (length ps) (sheet_at ps csv) ≡ 0) × (sheet (sheet_at ps csv) ≡ asked_at ps csv)
  unfolding sheet_at
  asks_for = (with_front.accepted, with_front.same_sheet ∙ edition.sheet_back)

-- ---- with the book that the fleet's CSV gives
book_of : (fleet : List ℕ) → (last_table fleet).fault ≡ 0 → (book_refusal (csv_book fleet) ≡ 0) × (columns (csv_book fleet) ≡ (last_table fleet).columns)
book_of fleet z =
    let r : book.Made = record { fault = 0; line = 0; field = 0; len = length (csv_book fleet); boats = (last_table fleet).boats; columns = (last_table fleet).columns; front = Nothing } in
    let b = book_accepted fleet z r refl refl refl in
    (b.accepted, b.columns_are)

pub with_book : (fleet : List ℕ) → (last_table fleet).fault ≡ 0 → (n : ℕ) → n ≡ (last_table fleet).columns → (s : List ℕ) → sheet_refusal n s ≡ 0 → files_refusal (csv_book fleet) s ≡ 0
unfolding files_refusal
with_book fleet z n e s a =
    let b = book_of fleet z in
    rw (eq-eqb _ 0 b.0, b.1, ← e) a

module _ (fleet csv out : List ℕ) (h : file_limit ≤ length out) (z : (last_table fleet).fault ≡ 0) (short : length csv ≤ 39000) (good : (rows_fault csv).fault ≡ 0) where
  abbrev ps : List ℕ
  ps = places fleet csv

  abbrev mismatched : Misfit
  mismatched = mismatch (last_table fleet).columns (sheet_names csv) fleet csv

  accepted : Ready ps csv → mismatched.fault ≡ 0 → total_fault ps csv ≡ 0 → SheetAccepted fleet csv (made_by zero ps csv) (sheet_at ps csv)
  unfolding made_by asked
  accepted d none e =
      record {
        size = refl;
        most_bytes = sheet_short d e;
        accepted = (asks_for d e).0;
        with_book = with_book fleet z (length ps) (places_long fleet csv z) (sheet_at ps csv) (asks_for d e).0;
        asks = (asks_for d e).1;
        figures = rw (asks_for d e).1 (figures d e fleet refl);
        fields_back = λ rows i q. rw (asks_for d e).1 (said_again rows i q (figures d e fleet refl));
        matched = rw (places_long fleet csv z) (matched fleet csv z short good none);
      }

  right_at : Ready ps csv → mismatched.fault ≡ 0 → (f : ℕ) → total_fault ps csv ≡ f → {r : Outcome} → r ≡ made_by f ps csv → {new : List ℕ} → new ≡ output_at r.fault ps csv out → SheetRight fleet csv r (take r.len new)
  unfolding made_by output_at SheetRightBy
  right_at d none zero e er {new} en =
      let m : new ≡ placed out 0 (sheet_at ps csv) = rw er at en in
      let s : take (length (sheet_at ps csv)) new ≡ sheet_at ps csv = front_taken out (sheet_at ps csv) m refl (omega (arith, sheet_short d e)) in
      rw (er, s) (accepted d none e)
  right_at d none (suc f) e er en = rw er refl

  right : {r : Outcome} → r ≡ made_of_columns fleet csv → {new : List ℕ} → new ≡ output_by r.fault fleet csv out → SheetRight fleet csv r (take r.len new)
  unfolding made_of_columns SheetRightBy
  right {r} er {new} en = by mismatched.fault refl
    where
      by : (f : ℕ) → mismatched.fault ≡ f → SheetRight fleet csv r (take r.len new)
      by zero e = right_at (ready fleet csv z short good e) e (total_fault ps csv) refl (er ∙ rw (eq-eqb _ 0 e)) en
      by (suc f) e =
          let q : r ≡ nothing_made (suc f) 0 0 mismatched.column = er ∙ rw (e, ne_eqb (suc f) 0 (λ z. omega arith)) in
          rw q refl

-- ---- what a call gives back, the buffer after it, and what holds of them
abbrev Done : (fleet csv out : List ℕ) → Outcome → (new : List ℕ) → Type 0
Done fleet csv out r new = (r ≡ sheet_made (length out) fleet csv) × ((new ≡ output_by r.fault fleet csv out) × SheetRight fleet csv r (take r.len new))

module _ (fleet csv out : List ℕ) where
  stopped : (f l w p : ℕ) → (f ≡ 0 → ⊥) → {r : Outcome} → r ≡ nothing_made f l w p → sheet_made (length out) fleet csv ≡ nothing_made f l w p → Done fleet csv out r out
  unfolding output_at SheetRightBy
  stopped zero l w p n e s = absurd (n refl)
  stopped (suc f) l w p n e s = rw e (sym s, (refl, refl))

  pub no_room : length out < file_limit → {r : Outcome} → r ≡ nothing_made 11 0 0 0 → Done fleet csv out r out
  unfolding sheet_made
  no_room h e = stopped 11 0 0 0 (λ z. omega arith) e (rw (lt-ltb (length out) file_limit h))

  module _ (h : file_limit ≤ length out) where
    pub too_big : 39000 < length csv → {r : Outcome} → r ≡ nothing_made 10 0 0 0 → Done fleet csv out r out
    unfolding sheet_made
    too_big k e = stopped 10 0 0 0 (λ z. omega arith) e (rw (le-ltb (length out) file_limit h, lt-ltb 39000 (length csv) k))

    module _ (k : length csv ≤ 39000) where
      past_sizes : sheet_made (length out) fleet csv ≡ made_for_fleet fleet csv
      unfolding sheet_made
      past_sizes = rw (le-ltb (length out) file_limit h, le-ltb 39000 (length csv) k)

      pub fleet_big : 200000 < length fleet → {r : Outcome} → r ≡ nothing_made 12 0 0 0 → Done fleet csv out r out
      unfolding made_for_fleet
      fleet_big l e = stopped 12 0 0 0 (λ z. omega arith) e (past_sizes ∙ rw (lt-ltb 200000 (length fleet) l))

      module _ (l : length fleet ≤ 200000) {t : Table} (et : t ≡ last_table fleet) where
        pub fleet_faulty : (t.fault ≡ 0 → ⊥) → {r : Outcome} → r ≡ nothing_made 12 0 0 0 → Done fleet csv out r out
        unfolding made_for_fleet
        fleet_faulty n e = stopped 12 0 0 0 (λ z. omega arith) e (past_sizes ∙ rw (le-ltb 200000 (length fleet) l, ← et, ne_eqb t.fault 0 n))

        module _ (z : t.fault ≡ 0) {f : Found} (ef : f ≡ rows_fault csv) where
          past_fleet : sheet_made (length out) fleet csv ≡ made_of_rows fleet csv
          unfolding made_for_fleet
          past_fleet = past_sizes ∙ rw (le-ltb 200000 (length fleet) l, ← et, eq-eqb t.fault 0 z)

          pub rows_faulty : (f.fault ≡ 0 → ⊥) → {r : Outcome} → r ≡ nothing_made f.fault f.line f.row f.field → Done fleet csv out r out
          unfolding made_of_rows
          rows_faulty n e = stopped f.fault f.line f.row f.field n e (past_fleet ∙ rw (← ef, ne_eqb f.fault 0 n))

          pub fleet_fault : (last_table fleet).fault ≡ 0
          fleet_fault = rw (← et) z

          pub rows_faultless : f.fault ≡ 0 → (rows_fault csv).fault ≡ 0
          rows_faultless n = rw (← ef) n

          pub made : f.fault ≡ 0 → {r : Outcome} → r ≡ made_of_columns fleet csv → {new : List ℕ} → new ≡ output_by r.fault fleet csv out → Done fleet csv out r new
          unfolding made_of_rows
          made n er en = (er ∙ sym (past_fleet ∙ rw (← ef, eq-eqb f.fault 0 n)), (en, right fleet csv out h fleet_fault k (rows_faultless n) er en))
