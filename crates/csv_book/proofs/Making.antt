-- A book of a CSV put together: front text, rows, trailer; it is accepted and reads back.
use mathlib.Core.Path.{◌≡◌, refl, sym, ap, subst, ◌∙◌}
use mathlib.Core.List.{List, [], ◌++◌}
use mathlib.Core.Logic.{◌⊎◌, inl, inr}
use Prim.Native.Nat.{ℕ, zero, suc, ◌+◌, ◌*◌, ◌≤◌, ◌<◌}
use native.Mathlib.Nat.{mul-le-mul}
use native.Mathlib.Omega.{arith}
use borrow.Author.Tests.{lt-ltb, le-ltb}
use lib.ListN.{length, take, length-append}
use Rattle.files.specs.Book.{boats, columns, rows, book_refusal, BookWhole}
use Rattle.files.specs.Front.{BookFrontUnread}
use Rattle.files.proofs.Front.{book_front_unread}
use Rattle.files.specs.Limits.{file_limit}
use Rattle.buffers.specs.Placed.{placed}
use Rattle.buffers.proofs.Placing.{placed_next}
use Rattle.sheet_output.specs.Output.{values_bytes}
use Rattle.sheet_output.proofs.Values.{length_values_bytes}
use Rattle.buffers.proofs.Writing.{front_taken}
use Rattle.book_output.specs.Output.{book_trailer}
use Rattle.book_output.proofs.Back.{book_trailer_length}
use Rattle.csv_fleet_tokens.specs.Table.{Table}
use Rattle.csv_fleet_reader.specs.Fleet.{fleet_values, last_table, last_line}
use Rattle.csv_fleet_rows.specs.Rows.{fleet_rows, Whole, FaultlessWhole}
use Rattle.csv_fleet_rows.proofs.Counting.{faultless_whole}
use Rattle.csv_fleet_rows.specs.Texts.{ValuesSaid}
use Rattle.csv_fleet_rows.proofs.Texts.{values_said}
use Rattle.csv_fleet_round_trip.specs.Writing.{Fleet, fleet_csv}
use Rattle.csv_fleet_round_trip.specs.Back.{FleetFits, ReadBack, FleetReadsBack}
use Rattle.csv_fleet_round_trip.proofs.Back.{fleet_reads_back}
use Rattle.csv_fleet_rows.proofs.Rows as fleet
use Rattle.csv_front_text.specs.declared.Written.{Written}
use Rattle.csv_front_text.specs.Front.{front_text, file_front, with_front, written_of}
use Rattle.csv_front_text.proofs.Fronts.{file_front_short}
use Rattle.csv_book.specs.Books.{Made, bare_book, csv_book, nothing_made, made_by, book_made, output_by}
use Rattle.csv_book.specs.Promise.{BookAccepted, BookRightBy, BookRight}

-- ---- a CSV without fault
module _ (csv : List ℕ) (z : (last_table csv).fault ≡ 0) where
  whole : Whole csv
  unfolding FaultlessWhole
  whole = faultless_whole csv z

  pub few_values : length (fleet_values csv) ≤ 16384
  few_values = rw whole.count (mul-le-mul whole.most_boats whole.most_columns)

  bare_is : bare_book csv ≡ values_bytes (fleet_values csv) ++ book_trailer (length (values_bytes (fleet_values csv))) (last_table csv).boats (last_table csv).columns
  unfolding bare_book
  bare_is = fleet.bare_book csv whole

  bare_length : length (bare_book csv) ≡ 2 * length (fleet_values csv) + 12
  bare_length =
      ap length bare_is
      ∙ (omega (
        arith,
        length-append (values_bytes (fleet_values csv)) (book_trailer (length (values_bytes (fleet_values csv))) (last_table csv).boats (last_table csv).columns),
        length_values_bytes (fleet_values csv),
        book_trailer_length (length (values_bytes (fleet_values csv))) (last_table csv).boats (last_table csv).columns,
      ))

  -- the values, and the trailer right after them
  module _ (out : List ℕ) {o₁ o₂ : List ℕ} (e₁ : o₁ ≡ placed out 0 (values_bytes (fleet_values csv))) {v n c : ℕ} (ev : v ≡ length (fleet_values csv))
      (en : n ≡ (last_table csv).boats) (ec : c ≡ (last_table csv).columns) (e₂ : o₂ ≡ placed o₁ (2 * v) (book_trailer (2 * v) n c)) (l : length out ≡ 32780) where
    pub bare_put : take (2 * v + 12) o₂ ≡ bare_book csv
    bare_put =
        let b = length (values_bytes (fleet_values csv)) in
        let q : 2 * v ≡ b = omega (arith, length_values_bytes (fleet_values csv)) in
        let p : o₂ ≡ placed out 0 (values_bytes (fleet_values csv) ++ book_trailer b (last_table csv).boats (last_table csv).columns) =
        placed_next out 0 (values_bytes (fleet_values csv)) (book_trailer b (last_table csv).boats (last_table csv).columns) b e₁ (rw (q, en, ec) at e₂) (omega arith)
        (omega (arith, few_values, length_values_bytes (fleet_values csv))) in
        let w : o₂ ≡ placed out 0 (bare_book csv) = rw bare_is p in
        let g : 2 * v + 12 ≡ length (bare_book csv) = omega (arith, bare_length) in
        front_taken out (bare_book csv) w g (omega (arith, bare_length, few_values))

  -- with front text
  pub made_long : length (csv_book csv) ≤ file_limit
  unfolding csv_book with_front
  made_long = omega (arith, length-append (front_text (file_front csv (bare_book csv)) csv) (bare_book csv), file_front_short csv (bare_book csv), bare_length, few_values)

  bare_whole : BookWhole (bare_book csv)
  unfolding bare_book
  bare_whole =
      let d = fleet.bare_back csv whole in
      rw (d.boats_back, d.columns_back) (omega (arith, d.size))

  front_fits : length (front_text (file_front csv (bare_book csv)) csv) + length (bare_book csv) ≤ file_limit
  front_fits = omega (arith, file_front_short csv (bare_book csv), bare_length, few_values)

  bare_accepted : (book_refusal (bare_book csv) ≡ 0) × ((rows (bare_book csv) ≡ fleet_rows csv) × ((boats (bare_book csv) ≡ (last_table csv).boats) × (columns (bare_book csv) ≡ (last_table csv).columns)))
  unfolding bare_book
  bare_accepted =
      let d = fleet.bare_back csv whole in
      (d.accepted, (d.rows_back, (d.boats_back ∙ fleet.boats_long csv whole, d.columns_back)))

  pub book_accepted : (r : Made) → r.len ≡ length (csv_book csv) → r.boats ≡ (last_table csv).boats → r.columns ≡ (last_table csv).columns → BookAccepted csv r (csv_book csv)
  unfolding csv_book with_front BookFrontUnread ValuesSaid
  book_accepted r el en ec =
      let p = book_front_unread (front_text (file_front csv (bare_book csv)) csv) [] (bare_book csv) bare_whole front_fits (omega (arith, bare_length, few_values)) in
      let q = bare_accepted in
      record {
        size = sym el;
        most_bytes = omega (arith, made_long);
        accepted = p.3 ∙ q.0;
        rows_are = p.2 ∙ q.1.0;
        boats_are = p.0 ∙ q.1.1.0 ∙ sym en;
        columns_are = p.1 ∙ q.1.1.1 ∙ sym ec;
        values_said = values_said csv;
      }

book_long : (csv : List ℕ) → (last_table csv).fault ≡ 0 → length (with_front csv (bare_book csv)) ≤ file_limit
unfolding csv_book
book_long csv z = made_long csv z

-- ---- a fleet that was written as CSV
fleet_back : (csv : List ℕ) (f : Fleet) → FleetFits f → csv ≡ fleet_csv f → ReadBack f csv
unfolding FleetReadsBack
fleet_back csv f i e = rw e (fleet_reads_back f i)

written : (csv : List ℕ) (r : Made) {b : List ℕ} → BookAccepted csv r b → r.fault ≡ 0 → BookRight csv r b
unfolding BookRightBy
written csv r {b} d z = record { by_fault = subst (λ (n : ℕ). BookRightBy n csv r b) (sym z) d; reads_back = λ f i e h k. (z, d.rows_are ∙ (fleet_back csv f i e).rows_back) }

-- nothing was made of another CSV, or for its size
not_written : (csv : List ℕ) (r : Made) → (r.fault ≡ 0 → ⊥) → ((r.fault ≡ 10) ⊎ (r.fault ≡ 11)) ⊎ ((last_table csv).fault ≡ 0 → ⊥) → BookRightBy r.fault csv r [] → BookRight csv r []
not_written csv r n w d =
    record {
      by_fault = d;
      reads_back = λ f i e h k. absurd (by w (fleet_back csv f i e).faultless h k);
    }
  where
    by : ((r.fault ≡ 10) ⊎ (r.fault ≡ 11)) ⊎ ((last_table csv).fault ≡ 0 → ⊥) → (last_table csv).fault ≡ 0 → (r.fault ≡ 10 → ⊥) → (r.fault ≡ 11 → ⊥) → ⊥
    by (inl (inl e)) z h k = h e
    by (inl (inr e)) z h k = k e
    by (inr m) z h k = m z

-- ---- what a call gives back, the buffer after it, and what holds of them
abbrev Done : (csv out : List ℕ) → Made → (new : List ℕ) → Type 0
Done csv out r new = (r ≡ book_made (length out) csv) × ((new ≡ output_by r.fault csv out) × BookRight csv r (take r.len new))

module _ (csv out : List ℕ) where
  pub no_room : length out < file_limit → {r : Made} → r ≡ nothing_made 11 0 0 0 0 → Done csv out r out
  unfolding book_made output_by BookRightBy
  no_room h e = rw e (rw (lt-ltb (length out) file_limit h), (refl, not_written csv (nothing_made 11 0 0 0 0) (λ z. omega arith) (inl (inr refl)) refl))

  module _ (h : file_limit ≤ length out) where
    pub too_big : 200000 < length csv → {r : Made} → r ≡ nothing_made 10 0 0 0 0 → Done csv out r out
    unfolding book_made output_by BookRightBy
    too_big k e = rw e (rw (le-ltb (length out) file_limit h, lt-ltb 200000 (length csv) k), (refl, not_written csv (nothing_made 10 0 0 0 0) (λ z. omega arith) (inl (inl refl)) refl))

    module _ (k : length csv ≤ 200000) {t : Table} (et : t ≡ last_table csv) where
      not_made : (f : ℕ) → (f ≡ 0 → ⊥) → (l : ℕ) → l ≡ last_line csv →
          (◌≡◌ {A = Made} (nothing_made f l t.field t.boats t.columns) (made_by f csv)) × ((out ≡ output_by f csv out) × BookRightBy f csv (nothing_made f l t.field t.boats t.columns) [])
      unfolding made_by output_by BookRightBy
      not_made zero n l el = absurd (n refl)
      not_made (suc f) n l el = (rw (el, et), (refl, refl))

      pub with_fault : (t.fault ≡ 0 → ⊥) → {l : ℕ} → l ≡ last_line csv → {r : Made} → r ≡ nothing_made t.fault l t.field t.boats t.columns → Done csv out r out
      unfolding book_made
      with_fault n {l} el e =
          let p = not_made t.fault n l el in
          rw (e, le-ltb (length out) file_limit h, le-ltb 200000 (length csv) k, ← et)
          (p.0, (p.1.0, not_written csv (nothing_made t.fault l t.field t.boats t.columns) n (inr (λ z. n (rw et z))) p.1.1))

      pub with_book : t.fault ≡ 0 → {file : List ℕ} → file ≡ bare_book csv → {w : Written} → w ≡ written_of csv file → {new : List ℕ} → new ≡ placed out 0 (with_front csv file) →
          Done csv out (record { fault = 0; line = 0; field = 0; len = w.len; boats = t.boats; columns = t.columns; front = w.front }) new
      unfolding book_made made_by output_by BookRightBy written_of csv_book
      with_book z {file} ef {w} ew {new} en =
          let y : (last_table csv).fault ≡ 0 = rw (← et) z in
          let a : w.len ≡ length (with_front csv (bare_book csv)) = rw (ew, ef) in
          let b : w.front ≡ file_front csv (bare_book csv) = rw (ew, ef) in
          let m : new ≡ placed out 0 (with_front csv (bare_book csv)) = rw ef at en in
          let s : take w.len new ≡ with_front csv (bare_book csv) = front_taken out (with_front csv (bare_book csv)) m a (omega (arith, book_long csv y)) in (
            rw (le-ltb (length out) file_limit h, le-ltb 200000 (length csv) k, y, a, b, et),
            (m, rw s (written csv _ (book_accepted csv y _ a (rw et) (rw et)) refl)),
          )
