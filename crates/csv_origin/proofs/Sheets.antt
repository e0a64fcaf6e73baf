-- A sheet compared with the one that two CSVs make: a law for each return.
use mathlib.Core.Path.{◌≡◌, refl, sym, ap, subst, ◌∙◌}
use mathlib.Core.Bool.{Bool, true, false, ◌||◌, not, cond, true≢false}
use Rattle.std.specs.Prelude.{⊤, Result, Ok, Err, is_err}
use Rattle.refusals.specs.declared.Refusal.{Refusal}
use Rattle.refusals.specs.Numbers.{refusal_number}
use Rattle.refusals.proofs.Numbers.{positive}
use mathlib.Core.List.{List}
use Prim.Native.Nat.{ℕ, zero, suc, ◌≤◌}
use native.Mathlib.Omega.{arith}
use borrow.Author.Tests.{eq-eqb, ne_eqb, eqb-false, ltb-false}
use lib.Dec.{eqb, ltb}
use lib.ListN.{length, take}
use Rattle.files.specs.Bytes.{same}
use Rattle.files.specs.Limits.{file_limit}
use Rattle.files.specs.Sheet.{sheet, sheet_refusal_in, target_offset, SheetWhole}
use Rattle.files.proofs.Accepted.{sheet_passed}
use Rattle.factors.specs.Factors.{all_ones}
use Rattle.method.specs.Answers.{slots_after}
use Rattle.method.proofs.Promise.{slots_kept}
use Rattle.buffers.proofs.Writing.{front_taken}
use Rattle.csv_fleet_reader.specs.Fleet.{last_table}
use Rattle.csv_sheet_rows.specs.Rows.{sheet_names, rows_fault}
use Rattle.csv_column_match.specs.Match.{mismatch}
use denote.Enum.Bare.{sameb}
use Rattle.csv_fleet_tokens.specs.contracts.Fault.{the_type}
use Rattle.csv_fleet_tokens.specs.declared.Fault.{Fault}
use Rattle.csv_fleet_tokens.specs.declared.Fault.TheVariants.{Fleet}
use Rattle.csv_fleet_tokens.specs.Faults.{fault_number}
use Rattle.csv_sheet.specs.Outcomes.{Outcome}
use Rattle.csv_sheet.specs.Sheets.{places, csv_sheet, nothing_made, total_fault, made_by, made_at, made_of_columns, made_of_rows, made_for_fleet, sheet_made, output_at, output_by}
use Rattle.csv_sheet.specs.Promise.{SheetAccepted, SheetRightBy, SheetRight}
use Rattle.editions.specs.Rewritten.{Rewritten, Refused, Wrote}
use Rattle.editions.specs.Rewriting.{sheet_front, other_number, other_edition, edition_refusal, rewriting}
use Rattle.csv_origin.specs.Origin.{edition_of, front_of, sheet_by, sheet_of}

-- ---- the number of a result
pub some_number : (r : Result ⊤ Refusal) → is_err r ≡ true → refusal_number r ≡ 0 → ⊥
some_number (Ok x) e z = absurd (true≢false (sym e))
some_number (Err x) e z = positive x z

pub no_number : (r : Result ⊤ Refusal) → is_err r ≡ false → refusal_number r ≡ 0
no_number (Ok x) e = refl
no_number (Err x) e = absurd (true≢false e)

-- ---- front text
module _ (s : List ℕ) {n : ℕ} (e : n ≡ sheet_refusal_in 1 64 s) where
  pub no_front : (n ≡ 0 → ⊥) → (csv : List ℕ) → false ≡ front_of csv s
  unfolding front_of
  no_front h csv = rw (← e, ne_eqb n 0 h)

  module _ (z : n ≡ 0) where
    pub front_whole : SheetWhole s
    front_whole = (sheet_passed 1 64 s (sym e ∙ z)).fits.whole

    pub front_compared : {at : ℕ} → at ≡ target_offset s → (csv : List ℕ) {g : Bool} → g ≡ same (take at s) csv → g ≡ front_of csv s
    unfolding front_of sheet_front
    front_compared ea csv eg = eg ∙ rw (← e, eq-eqb n 0 z, ea)

-- ---- the other edition
refused_some : (n k m x : ℕ) → rewriting n k m ≡ Refused x → n ≡ 0 → ⊥
unfolding rewriting
refused_some zero k m x e z = absurd (let y : ◌≡◌ {A = ℕ} 0 1 = cc in omega arith)
refused_some (suc n) k m x e z = omega arith

wrote_none : (n k m x y : ℕ) → rewriting n k m ≡ Wrote x y → (n ≡ 0) × (m ≡ y)
unfolding rewriting
wrote_none zero k m x y e = (refl, cc)
wrote_none (suc n) k m x y e = absurd (let z : ◌≡◌ {A = ℕ} 0 1 = cc in omega arith)

-- what is not refused has room
other_fits : (s : List ℕ) (room : ℕ) → edition_refusal s room ≡ 0 → length (other_edition s) ≤ room
unfolding edition_refusal
other_fits s room e = by (eqb (sheet_refusal_in 1 64 s) 0) refl (all_ones (sheet s).factors) (ltb room (length (other_edition s))) refl (ltb file_limit (length (other_edition s))) e
  where
    by : (o : Bool) → eqb (sheet_refusal_in 1 64 s) 0 ≡ o → (a b : Bool) → ltb room (length (other_edition s)) ≡ b → (c : Bool) →
        cond o (cond (not a) 47 (cond (b || c) 48 0)) (sheet_refusal_in 1 64 s) ≡ 0 → length (other_edition s) ≤ room
    by false p a b q c z = absurd (eqb-false (sheet_refusal_in 1 64 s) 0 p z)
    by true p false b q c z = absurd (omega arith)
    by true p true true q c z = absurd (omega arith)
    by true p true false q c z = ltb-false room (length (other_edition s)) q

module _ (m s : List ℕ) where
  pub same_edition : {g : Bool} → g ≡ same m s → g ≡ true → true ≡ edition_of m s
  unfolding edition_of
  same_edition e t = rw (← e, t)

  module _ {g : Bool} (e : g ≡ same m s) (t : g ≡ false) {r : Rewritten} {room : ℕ}
      (er : r ≡ rewriting (edition_refusal m room) (other_number m) (length (other_edition m))) (l : room ≡ file_limit) where
    now_given : r ≡ rewriting (edition_refusal m file_limit) (other_number m) (length (other_edition m))
    now_given = rw l at er

    pub no_other : {x : ℕ} → r ≡ Refused x → false ≡ edition_of m s
    unfolding edition_of
    no_other {x} q = rw (← e, t, ne_eqb (edition_refusal m file_limit) 0 (refused_some (edition_refusal m file_limit) _ _ x (sym now_given ∙ q)))

    module _ {x y : ℕ} (q : r ≡ Wrote x y) where
      wrote : (edition_refusal m file_limit ≡ 0) × (length (other_edition m) ≡ y)
      wrote = wrote_none (edition_refusal m file_limit) _ _ x y (sym now_given ∙ q)

      pub other_short : y ≤ file_limit
      other_short = omega (arith, wrote.1, other_fits m file_limit wrote.0)

      pub other_compared : (out : List ℕ) {new : List ℕ} → new ≡ slots_after (edition_refusal m room) (other_edition m) out → {h : Bool} → h ≡ same (take y new) s → h ≡ edition_of m s
      unfolding edition_of
      other_compared out {new} en eh =
          let z : edition_refusal m room ≡ 0 = rw l wrote.0 in
          let k : take y new ≡ other_edition m = ap (take y) (en ∙ ap (λ n. slots_after n (other_edition m) out) z) ∙ slots_kept (other_edition m) out y wrote.1 in
          eh ∙ rw (k, ← e, t, eq-eqb (edition_refusal m file_limit) 0 wrote.0)

-- ---- the sheet of two CSVs

-- of two outcomes the one without fault
module _ (t : Bool) (a b : Outcome) where
  first : (b.fault ≡ 0 → ⊥) → (cond t a b).fault ≡ 0 → cond t a b ≡ a
  first n z = by t z
    where
      by : (t : Bool) → (cond t a b).fault ≡ 0 → cond t a b ≡ a
      by true z = refl
      by false z = absurd (n z)

  second : (a.fault ≡ 0 → ⊥) → (cond t a b).fault ≡ 0 → cond t a b ≡ b
  second n z = by t z
    where
      by : (t : Bool) → (cond t a b).fault ≡ 0 → cond t a b ≡ b
      by true z = absurd (n z)
      by false z = refl

-- a fault that is passed on is none
passed_on : (n : ℕ) (a b : Outcome) → b.fault ≡ n → (cond (eqb n 0) a b).fault ≡ 0 → cond (eqb n 0) a b ≡ a
passed_on n a b e z = by (eqb n 0) refl z
  where
    by : (t : Bool) → eqb n 0 ≡ t → (cond t a b).fault ≡ 0 → cond t a b ≡ a
    by true p z = refl
    by false p z = absurd (eqb-false n 0 p (sym e ∙ z))

module _ (fleet csv : List ℕ) where
  columns_made : (made_of_columns fleet csv).fault ≡ 0 → made_of_columns fleet csv ≡ made_at (places fleet csv) csv
  unfolding made_of_columns
  columns_made z = passed_on (mismatch (last_table fleet).columns (sheet_names csv) fleet csv).fault _ _ refl z

  rows_made : (made_of_rows fleet csv).fault ≡ 0 → made_of_rows fleet csv ≡ made_of_columns fleet csv
  unfolding made_of_rows
  rows_made z = passed_on (rows_fault csv).fault _ _ refl z

  fleet_made : (made_for_fleet fleet csv).fault ≡ 0 → made_for_fleet fleet csv ≡ made_of_rows fleet csv
  unfolding made_for_fleet
  fleet_made z =
      let inner = cond (eqb (last_table fleet).fault 0) (made_of_rows fleet csv) (nothing_made 12 0 0 0) in
      let p = second (ltb 200000 (length fleet)) (nothing_made 12 0 0 0) inner (λ y. omega arith) z in
      p ∙ first (eqb (last_table fleet).fault 0) (made_of_rows fleet csv) (nothing_made 12 0 0 0) (λ y. omega arith) (rw p at z)

  room_made : (room : ℕ) → (sheet_made room fleet csv).fault ≡ 0 → sheet_made room fleet csv ≡ made_for_fleet fleet csv
  unfolding sheet_made
  room_made room z =
      let inner = cond (ltb 39000 (length csv)) (nothing_made 10 0 0 0) (made_for_fleet fleet csv) in
      let p = second (ltb room file_limit) (nothing_made 11 0 0 0) inner (λ y. omega arith) z in
      p ∙ second (ltb 39000 (length csv)) (nothing_made 10 0 0 0) (made_for_fleet fleet csv) (λ y. omega arith) (rw p at z)

  -- the length of a sheet without fault
  by_total : (f : ℕ) → (made_by f (places fleet csv) csv).fault ≡ 0 → (made_by f (places fleet csv) csv).len ≡ length (csv_sheet fleet csv)
  unfolding made_by csv_sheet
  by_total zero z = refl
  by_total (suc f) z = absurd (omega arith)

  made_long : (room : ℕ) → (sheet_made room fleet csv).fault ≡ 0 → (sheet_made room fleet csv).len ≡ length (csv_sheet fleet csv)
  made_long room z =
      let p = room_made room z in
      let q = fleet_made (rw p at z) in
      let h : (made_of_rows fleet csv).fault ≡ 0 = rw (p, q) at z in
      let k = rows_made h in
      let l = columns_made (rw k at h) in
      let e : sheet_made room fleet csv ≡ made_at (places fleet csv) csv = p ∙ q ∙ k ∙ l in
      rw e (by_total (total_fault (places fleet csv) csv) (rw e at z))

-- whether a fault is one of the fleet, by its number
module _ (f : Fault) {b : Bool} (e : b ≡ sameb the_type f Fleet) where
  pub is_fleet : b ≡ true → fault_number f ≡ 12
  is_fleet h = grind (arith, e, h)

  pub not_fleet : b ≡ false → fault_number f ≡ 12 → ⊥
  not_fleet h z = grind (arith, e, h, z)

module _ (fleet csv : List ℕ) (r : Outcome) where
  pub sheet_short : r.fault ≡ 0 → (w : List ℕ) → SheetRight fleet csv r w → r.len ≤ file_limit
  unfolding SheetRightBy
  sheet_short z w d = let a : SheetAccepted fleet csv r w = subst (λ (n : ℕ). SheetRightBy n fleet csv r w) z d in a.most_bytes

  now_made : {room : ℕ} → r ≡ sheet_made room fleet csv → room ≡ file_limit → r ≡ sheet_made file_limit fleet csv
  now_made e l = rw l at e

  pub front_decides : {room : ℕ} → r ≡ sheet_made room fleet csv → room ≡ file_limit → r.fault ≡ 12 → (s : List ℕ) {g : Bool} → g ≡ front_of csv s → g ≡ sheet_of fleet csv s
  unfolding sheet_of sheet_by
  front_decides e l f s eg = eg ∙ rw (← now_made e l, f)

  pub no_sheet : {room : ℕ} → r ≡ sheet_made room fleet csv → room ≡ file_limit → (r.fault ≡ 12 → ⊥) → (r.fault ≡ 0 → ⊥) → (s : List ℕ) → false ≡ sheet_of fleet csv s
  unfolding sheet_of sheet_by
  no_sheet e l h n s = rw (← now_made e l, ne_eqb r.fault 12 h, ne_eqb r.fault 0 n)

  module _ (out : List ℕ) (e : r ≡ sheet_made (length out) fleet csv) (l : length out ≡ file_limit)
      (z : r.fault ≡ 0) {new : List ℕ} (en : new ≡ output_by r.fault fleet csv out) (d : SheetRight fleet csv r (take r.len new)) where
    -- the sheet is the first part of the buffer
    taken : take r.len new ≡ csv_sheet fleet csv
    unfolding output_at csv_sheet
    taken =
        let n : r.len ≡ length (csv_sheet fleet csv) = rw e (made_long fleet csv (length out) (rw e at z)) in
        front_taken out (csv_sheet fleet csv) (rw z at en) n (omega (arith, sheet_short z (take r.len new) d))

    pub sheet_compared : (s : List ℕ) {g : Bool} → g ≡ edition_of (take r.len new) s → g ≡ sheet_of fleet csv s
    unfolding sheet_of sheet_by
    sheet_compared s eg = eg ∙ rw (taken, ← now_made e l, z)
