-- What is made: a law for each return of the functions that find a fault or write the sheet.
use mathlib.Core.Path.{◌≡◌, refl, sym, ap, ◌∙◌}
use mathlib.Core.Bool.{Bool, true, false}
use mathlib.Core.List.{List}
use Prim.Native.Nat.{ℕ, zero, suc, ◌+◌, ◌≤◌, ◌<◌}
use native.Mathlib.Omega.{arith}
use borrow.Author.Tests.{eq-eqb, ne_eqb, lt-ltb, le-ltb}
use lib.ListN.{length, get_or, take}
use Rattle.frank_wolfe.specs.Vectors.{sum}
use Rattle.files.specs.Bytes.{between}
use Rattle.buffers.specs.Placed.{placed}
use Rattle.buffers.proofs.Writing.{front_taken}
use Rattle.csv_fleet_reader.specs.Fleet.{last_table}
use Rattle.csv_fleet_rows.specs.Rows.{Whole, FaultlessWhole}
use Rattle.csv_fleet_rows.proofs.Counting.{faultless_whole}
use Rattle.csv_sheet_rows.specs.Rows.{sheet_names, rows_fault}
use Rattle.csv_column_match.specs.Misfits.{Misfit}
use Rattle.csv_column_match.specs.Match.{position, positions, mismatch}
use Rattle.csv_column_match.specs.Matched.{Matched, WithoutMismatchMatched}
use Rattle.csv_column_match.proofs.Positions.{positions_long, position_at}
use Rattle.csv_column_match.proofs.Matching.{without_mismatch_matched}
use Rattle.std.specs.Prelude.{Option, None, Some, Result, Ok, Err}
use Rattle.std.specs.Option.{is_some}
use Rattle.csv_fleet_tokens.specs.declared.Fault.{Fault}
use Rattle.csv_fleet_tokens.specs.Faults.{option_number}
use Rattle.csv_fleet_tokens.proofs.Faults.{positive}
use Rattle.std.specs.Result.{IsErr, IsErrAnd}
use Rattle.csv_sheet_rows.specs.declared.Finding.{Finding}
use Rattle.csv_sheet_rows.specs.Findings.{Found, numbered}
use Rattle.csv_sheet.specs.declared.Made.{Made}
use Rattle.csv_sheet.specs.Outcomes.{Outcome, refused, outcome}
use Rattle.csv_sheet_parts.specs.Parts.{factors_of, steps_of, tolerance_for, sheet_at}
use Rattle.csv_sheet.specs.Sheets.{places, nothing_made, total_fault, made_by, made_at, made_of_columns, output_at, output_by}
use Rattle.csv_sheet_parts.specs.Ready.{Ready}
use Rattle.csv_sheet_parts.proofs.Bounds.{factors_long}

-- ---- a fault that is given back
pub refused_is : (f : Finding) {x : Found} → numbered f ≡ x → refused f ≡ nothing_made x.fault x.line x.row x.field
refused_is f e = ap (λ (x : Found). nothing_made x.fault x.line x.row x.field) e

pub passed_on : (r : Result Made Finding) (e : Finding) → IsErr r × IsErrAnd r (λ y. y ≡ e) → outcome r ≡ refused e
passed_on (Ok m) e h = elim h.1 [ ]
passed_on (Err f) e h = ap refused h.1

-- ---- a fault that there may be
pub some_number : (o : Option Fault) {b : Bool} → b ≡ is_some o → b ≡ true → option_number o ≡ 0 → ⊥
some_number None e h z = let q : ◌≡◌ {A = Bool} true false = sym h ∙ e in let n : ◌≡◌ {A = ℕ} 0 1 = cc in omega arith
some_number (Some f) e h z = positive f z

pub none_number : (o : Option Fault) {b : Bool} → b ≡ is_some o → b ≡ false → option_number o ≡ 0
none_number None e h = refl
none_number (Some f) e h = absurd (let q : ◌≡◌ {A = Bool} false true = sym h ∙ e in let n : ◌≡◌ {A = ℕ} 0 1 = cc in omega arith)

-- ---- once the columns match
module _ (ps csv out : List ℕ) where
  abbrev DoneAt : Outcome → (new : List ℕ) → Type 0
  DoneAt r new = (r ≡ made_at ps csv) × (new ≡ output_at r.fault ps csv out)

  module _ {t : ℕ} (et : t ≡ sum (factors_of ps csv)) {b : Bool} (eb : b ≡ between 1 64 t) where
    pub factors_out : b ≡ false → {r : Outcome} → r ≡ nothing_made 22 0 0 0 → DoneAt r out
    unfolding made_by total_fault output_at
    factors_out h e = rw (e, ← et, ← eb, h) (refl, refl)

    module _ (h : b ≡ true) {x : ℕ} (ex : x ≡ tolerance_for t csv) where
      pub tolerance_out : 1024000000 < x → {r : Outcome} → r ≡ nothing_made 23 0 0 0 → DoneAt r out
      unfolding made_by total_fault output_at
      tolerance_out k e = rw (e, ← et, ← eb, h, ← ex, lt-ltb 1024000000 x k) (refl, refl)

      pub sheet_out : x ≤ 1024000000 → {k : ℕ} → k ≡ steps_of csv → {n : ℕ} → n ≡ length (sheet_at ps csv) → {new : List ℕ} → new ≡ placed out 0 (sheet_at ps csv) →
          DoneAt (record { fault = 0; line = 0; row = 0; field = 0; len = n; columns = length ps; factors = t; steps = k; tolerance = x }) new
      unfolding made_by total_fault output_at
      sheet_out g ek en e =
          let z : total_fault ps csv ≡ 0 = rw (← et, ← eb, h, ← ex, le-ltb 1024000000 x g) in
          (rw (z, ← et, ← ex, ← ek, ← en), e)

-- the factors, which are the first part of a buffer
pub factors_taken : (ps csv out : List ℕ) {now : List ℕ} → now ≡ placed out 0 (factors_of ps csv) → length ps ≤ 64 → length out ≡ 64 → take (length ps) now ≡ factors_of ps csv
factors_taken ps csv out e h l = front_taken out (factors_of ps csv) e (sym (factors_long ps csv)) (omega (arith, factors_long ps csv))

-- ---- the places of columns without mismatch
pub whole : (fleet : List ℕ) → (last_table fleet).fault ≡ 0 → Whole fleet
unfolding FaultlessWhole
whole fleet z = faultless_whole fleet z

module _ (fleet csv : List ℕ) (z : (last_table fleet).fault ≡ 0) where
  pub places_long : length (places fleet csv) ≡ (last_table fleet).columns
  unfolding places
  places_long = positions_long (sheet_names csv) fleet csv (last_table fleet).columns

  module _ (short : length csv ≤ 39000) (good : (rows_fault csv).fault ≡ 0) (none : (mismatch (last_table fleet).columns (sheet_names csv) fleet csv).fault ≡ 0) where
    pub matched : Matched (last_table fleet).columns (sheet_names csv) fleet csv
    unfolding WithoutMismatchMatched
    matched = without_mismatch_matched (last_table fleet).columns (sheet_names csv) fleet csv none

    place_at : (i : ℕ) → i < length (places fleet csv) → get_or (places fleet csv) i 0 ≡ position (sheet_names csv) (i + 1) fleet csv
    unfolding places
    place_at i h = position_at (sheet_names csv) fleet csv (last_table fleet).columns i (omega (arith, places_long))

    pub ready : Ready (places fleet csv) csv
    ready =
        record {
          short = short;
          faultless = good;
          some = omega (arith, places_long, (whole fleet z).some_columns);
          few = omega (arith, places_long, (whole fleet z).most_columns);
          first = λ i h. rw (place_at i h) (matched.first (i + 1) (omega arith) (omega (arith, places_long)));
          last = λ i h. rw (place_at i h) (matched.last (i + 1) (omega arith) (omega (arith, places_long)));
        }

  -- they are the first part of a buffer
  pub places_taken : (out : List ℕ) {c : ℕ} → c ≡ (last_table fleet).columns → {n : ℕ} → n ≡ sheet_names csv → {now : List ℕ} → now ≡ placed out 0 (positions c n fleet csv) → length out ≡ 64 → take c now ≡ places fleet csv
  unfolding places
  places_taken out ec en e l =
      front_taken out (positions (last_table fleet).columns (sheet_names csv) fleet csv) (rw (ec, en) at e) (ec ∙ sym (positions_long (sheet_names csv) fleet csv (last_table fleet).columns))
      (omega (arith, positions_long (sheet_names csv) fleet csv (last_table fleet).columns, (whole fleet z).most_columns))

-- ---- once nothing is wrong but perhaps the columns
module _ (fleet csv out : List ℕ) {m : Misfit} (em : m ≡ mismatch (last_table fleet).columns (sheet_names csv) fleet csv) where
  abbrev DoneOf : Outcome → (new : List ℕ) → Type 0
  DoneOf r new = (r ≡ made_of_columns fleet csv) × (new ≡ output_by r.fault fleet csv out)

  kept : (f : ℕ) → (f ≡ 0 → ⊥) → out ≡ output_at f (places fleet csv) csv out
  unfolding output_at
  kept zero h = absurd (h refl)
  kept (suc f) h = refl

  pub columns_out : (m.fault ≡ 0 → ⊥) → {r : Outcome} → r ≡ nothing_made m.fault 0 0 m.column → DoneOf r out
  unfolding made_of_columns
  columns_out h e = rw (e, ← em, ne_eqb m.fault 0 h) (refl, kept m.fault h)

  pub columns_match : m.fault ≡ 0 → {qs : List ℕ} → qs ≡ places fleet csv → {r : Outcome} → r ≡ made_at qs csv → {new : List ℕ} → new ≡ output_at r.fault qs csv out → DoneOf r new
  unfolding made_of_columns
  columns_match h eq er en = (er ∙ rw (← em, eq-eqb m.fault 0 h, eq), rw eq at en)
