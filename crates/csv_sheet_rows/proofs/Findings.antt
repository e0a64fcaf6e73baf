-- What is wrong with the rows of a sheet's CSV: a law for each way that a function can go.
use mathlib.Core.Path.{◌≡◌, refl, sym, ap, ◌∙◌}
use mathlib.Core.Bool.{Bool, true, false, cond}
use mathlib.Core.List.{List}
use Prim.Native.Nat.{ℕ, zero, suc, ◌+◌, ◌-◌, ◌≤◌, ◌<◌}
use native.Mathlib.Omega.{arith}
use borrow.Author.Tests.{eqb-false, eq-eqb, ne_eqb, lt-ltb, le-ltb}
use lib.Dec.{ltb, eqb}
use lib.ListN.{length}
use Rattle.csv_bytes.specs.Cells.{is_number, read}
use Rattle.csv_bytes.specs.declared.Cell.{Cell}
use Rattle.csv_fleet_tokens.specs.declared.Fault.{Fault}
use Rattle.csv_fleet_tokens.specs.Faults.{fault_number, option_number}
use Rattle.csv_fleet_tokens.proofs.Faults.{positive}
use Rattle.csv_cells.specs.declared.Place.{Place as Read}
use Rattle.csv_cells.specs.Cells.{Place, numbered as place_number, last_place, cell_text, line_of, width}
use Rattle.std.specs.Prelude.{Result, Ok, Err, Some}
use Rattle.std.specs.Result.{IsErr, IsErrAnd}
use Rattle.csv_sheet_rows.specs.declared.Finding.{Finding}
use Rattle.csv_sheet_rows.specs.Findings.{Found, numbered, found_number}
use Rattle.csv_sheet_rows.specs.Kinds.{kind_at, place, row_of}
use Rattle.csv_sheet_rows.specs.Rows.{count_of, number_fault, is_left_out, is_open, value_fault, field_fault, faulty_field, none, found_in, field_finding, many_finding, numbers_finding, kind_finding, row_finding, rows_finding, sheet_names, nameless, names_finding, last_row, factor_row, without, missing_finding, content_finding, rows_fault}
use Rattle.csv_sheet_rows.proofs.First.{first_stays}
use Rattle.csv_sheet_rows.proofs.Soundness.{faulty_is}

-- what a `?` gives back has the numbers of what it was given
pub passed_on : {value : Type 0} (r : Result value Finding) (e : Finding) {x : Found} → IsErr r × IsErrAnd r (λ y. y ≡ e) → numbered e ≡ x →
    found_number r ≡ x
passed_on (Ok a) e h q = elim h.1 [ ]
passed_on (Err a) e h q = ap numbered h.1 ∙ q

-- ---- how many numbers
few_by : (a b d e : Bool) (c : ℕ) → c ≤ 64 → cond a c (cond b c (cond d 0 (cond e 1 0))) ≤ 64
few_by true b d e c h = omega arith
few_by false true d e c h = omega arith
few_by false false true e c h = omega arith
few_by false false false true c h = omega arith
few_by false false false false c h = omega arith

pub count_few : (k : ℕ) {c : ℕ} → c ≤ 64 → {n : ℕ} → n ≡ count_of k c → n ≤ 64
unfolding count_of
count_few k {c} h e = rw e (few_by (eqb k 0) (eqb k 2) (ltb k 3) (ltb k 6) c h)

-- ---- a column to be estimated
module _ (w : ℕ) (c : Cell) where
  pub left_none : w ≡ 0 → false ≡ is_left_out w c
  unfolding is_left_out
  left_none h = rw (eq-eqb w 0 h)

  module _ (h : w ≡ 0 → ⊥) {b : Bool} (eb : b ≡ is_number c) where
    pub left_number : b ≡ true → eqb c.magnitude 0 ≡ is_left_out w c
    unfolding is_left_out
    left_number p = rw (ne_eqb w 0 h, ← eb, p)

    pub left_other : b ≡ false → false ≡ is_left_out w c
    unfolding is_left_out
    left_other p = rw (ne_eqb w 0 h, ← eb, p)

module _ (k w : ℕ) (v c : Cell) where
  module _ {o : Bool} (eo : o ≡ is_open k w v c) where
    pub value_open : o ≡ true → 0 ≡ value_fault k w v c
    unfolding value_fault
    value_open h = rw (← eo, h)

    pub value_number : o ≡ false → {x : ℕ} → x ≡ number_fault k v → x ≡ value_fault k w v c
    unfolding value_fault
    value_number h e = e ∙ rw (← eo, h)

pub field_read : (k w r f : ℕ) (csv : List ℕ) {v : Cell} → v ≡ read (cell_text r f csv) → {c : Cell} → c ≡ read (cell_text w f csv) → {x : ℕ} → x ≡ value_fault k w v c → x ≡ field_fault k w r f csv
unfolding field_fault
field_read k w r f csv ev ec e = e ∙ rw (ev, ec)

-- ---- the first faulty field
faulty_step : (k w r : ℕ) (csv : List ℕ) (n : ℕ) →
    faulty_field k w r (suc n) csv ≡ cond (eqb (faulty_field k w r n csv) 0) (cond (eqb (field_fault k w r (suc n) csv) 0) 0 (suc n)) (faulty_field k w r n csv)
unfolding faulty_field
faulty_step k w r csv n = refl

faulty_at : (k w r : ℕ) (csv : List ℕ) (f : ℕ) → 1 ≤ f →
    faulty_field k w r f csv ≡ cond (eqb (faulty_field k w r (f - 1) csv) 0) (cond (eqb (field_fault k w r f csv) 0) 0 f) (faulty_field k w r (f - 1) csv)
unfolding faulty_field
faulty_at k w r csv zero h = absurd (omega arith)
faulty_at k w r csv (suc f) h = let e : suc f - 1 ≡ f = omega arith in rw e

-- none of the fields before f is faulty
pub record Faultless (k w r n : ℕ) (csv : List ℕ) (f : ℕ) : Type 0 where
  pub some : 1 ≤ f
  pub within : f ≤ n + 1
  pub so_far : faulty_field k w r (f - 1) csv ≡ 0

pub faultless_start : {k w r n : ℕ} {csv : List ℕ} → Faultless k w r n csv 1
unfolding faulty_field
faultless_start = record { some = omega arith; within = omega arith; so_far = refl }

module _ {k w r n : ℕ} {csv : List ℕ} {f : ℕ} (d : Faultless k w r n csv f) where
  pub faultless_more : f ≤ n → {x : ℕ} → x ≡ field_fault k w r f csv → x ≡ 0 → Faultless k w r n csv (f + 1)
  faultless_more l ex h =
      record { some = omega arith; within = omega arith; so_far = let e : f + 1 - 1 ≡ f = omega arith in rw e (faulty_at k w r csv f d.some ∙ rw (d.so_far, ← ex, h)) }

  pub faultless_found : f ≤ n → {x : ℕ} → x ≡ field_fault k w r f csv → (x ≡ 0 → ⊥) → f ≡ faulty_field k w r n csv
  faultless_found l {x} ex h =
      let e : faulty_field k w r f csv ≡ f = faulty_at k w r csv f d.some ∙ rw (d.so_far, ← ex, ne_eqb x 0 h) in
      sym e
      ∙ first_stays (λ y. y) (λ m. faulty_field k w r m csv) (λ m. cond (eqb (field_fault k w r m csv) 0) 0 m) (faulty_step k w r csv) f n l (λ z. omega (arith, e, d.some))

  pub faultless_end : n + 1 ≤ f → 0 ≡ faulty_field k w r n csv
  faultless_end h = let e : n ≡ f - 1 = omega (arith, d.within) in rw e (sym d.so_far)

module _ {k w r n : ℕ} {csv : List ℕ} {f : ℕ} (d : Faultless k w r n csv f) where
  pub field_found : f ≤ n → {x : ℕ} → x ≡ field_fault k w r f csv → (x ≡ 0 → ⊥) → {y : Found} → y ≡ found_in r f x csv → y ≡ field_finding k w r n csv
  unfolding field_finding
  field_found l ex h ey = ey ∙ rw (← (faultless_found d l ex h), ne_eqb f 0 (λ z. omega (arith, z, d.some)), ← ex)

  pub field_end : n + 1 ≤ f → none ≡ field_finding k w r n csv
  unfolding field_finding
  field_end h = rw (← (faultless_end d h))

-- ---- the first column without a name
nameless_step : (csv : List ℕ) (n : ℕ) →
    nameless (suc n) csv ≡ cond (eqb (nameless n csv) 0) (cond (eqb (length (cell_text 0 (suc n) csv)) 0) (suc n) 0) (nameless n csv)
unfolding nameless
nameless_step csv n = refl

nameless_at : (csv : List ℕ) (f : ℕ) → 1 ≤ f →
    nameless f csv ≡ cond (eqb (nameless (f - 1) csv) 0) (cond (eqb (length (cell_text 0 f csv)) 0) f 0) (nameless (f - 1) csv)
unfolding nameless
nameless_at csv zero h = absurd (omega arith)
nameless_at csv (suc f) h = let e : suc f - 1 ≡ f = omega arith in rw e

-- each of the columns before f has a name
pub record Named (n : ℕ) (csv : List ℕ) (f : ℕ) : Type 0 where
  pub some : 1 ≤ f
  pub within : f ≤ n + 1
  pub so_far : nameless (f - 1) csv ≡ 0

pub named_start : {n : ℕ} {csv : List ℕ} → Named n csv 1
unfolding nameless
named_start = record { some = omega arith; within = omega arith; so_far = refl }

module _ {n : ℕ} {csv : List ℕ} {f : ℕ} (d : Named n csv f) where
  pub named_more : f ≤ n → {x : ℕ} → x ≡ length (cell_text 0 f csv) → (x ≡ 0 → ⊥) → Named n csv (f + 1)
  named_more l {x} ex h =
      record { some = omega arith; within = omega arith; so_far = let e : f + 1 - 1 ≡ f = omega arith in rw e (nameless_at csv f d.some ∙ rw (d.so_far, ← ex, ne_eqb x 0 h)) }

  pub named_found : f ≤ n → {x : ℕ} → x ≡ length (cell_text 0 f csv) → x ≡ 0 → f ≡ nameless n csv
  named_found l ex h =
      let e : nameless f csv ≡ f = nameless_at csv f d.some ∙ rw (d.so_far, ← ex, h) in
      sym e
      ∙ first_stays (λ y. y) (λ m. nameless m csv) (λ m. cond (eqb (length (cell_text 0 m csv)) 0) m 0) (nameless_step csv) f n l (λ z. omega (arith, e, d.some))

  pub named_end : n + 1 ≤ f → 0 ≡ nameless n csv
  named_end h = let e : n ≡ f - 1 = omega (arith, d.within) in rw e (sym d.so_far)

-- ---- a row
pub found_made : (r f x : ℕ) (csv : List ℕ) {l : ℕ} → l ≡ line_of r csv → record { fault = x; line = l; row = r; field = f } ≡ found_in r f x csv
found_made r f x csv e = rw e

module _ (n r : ℕ) (csv : List ℕ) {w : ℕ} (ew : w ≡ width r csv) where
  pub many_more : n + 1 < w → {x : Found} → x ≡ found_in r (n + 1) 24 csv → x ≡ many_finding n r csv
  unfolding many_finding
  many_more h e = e ∙ rw (← ew, lt-ltb (n + 1) w h)

  pub many_none : w ≤ n + 1 → {x : Found} → x ≡ none → x ≡ many_finding n r csv
  unfolding many_finding
  many_none h e = e ∙ rw (← ew, le-ltb (n + 1) w h)

-- what is found first of two
first_of : (b : Bool) (y z : Found) {x : Found} → x ≡ cond b none z → (x.fault ≡ 0 → ⊥) → x ≡ cond b y z
first_of true y z e h = absurd (h (ap (λ x. x.fault) e))
first_of false y z e h = e

second_of : (b : Bool) (z : Found) {x y : Found} → none ≡ cond b none z → (b ≡ false → z.fault ≡ 0 → ⊥) → x ≡ y → x ≡ cond b y z
second_of true z e h q = q
second_of false z e h q = absurd (h refl (sym (ap (λ x. x.fault) e)))

module _ (k w n r : ℕ) (csv : List ℕ) where
  pub numbers_none : n ≡ 0 → none ≡ numbers_finding k w n r csv
  unfolding numbers_finding
  numbers_none h = rw (eq-eqb n 0 h)

  module _ (h : n ≡ 0 → ⊥) {x : Found} where
    pub numbers_faulty : x ≡ field_finding k w r n csv → (x.fault ≡ 0 → ⊥) → x ≡ numbers_finding k w n r csv
    unfolding numbers_finding field_finding
    numbers_faulty e z = rw (ne_eqb n 0 h) (first_of (eqb (faulty_field k w r n csv) 0) _ _ e z)

    pub numbers_many : none ≡ field_finding k w r n csv → x ≡ many_finding n r csv → x ≡ numbers_finding k w n r csv
    unfolding numbers_finding field_finding
    numbers_many e q =
        rw (ne_eqb n 0 h)
        (second_of (eqb (faulty_field k w r n csv) 0) _ e (λ z. faulty_is k w r csv n (eqb-false (faulty_field k w r n csv) 0 z)) q)

module _ (k w c r : ℕ) (csv : List ℕ) where
  pub row_blank : k ≡ 8 → {x : Found} → x ≡ none → x ≡ kind_finding k w c r csv
  unfolding kind_finding
  row_blank h e = e ∙ rw (eq-eqb k 8 h)

  module _ (h : k ≡ 8 → ⊥) {p : ℕ} (ep : p ≡ place k) {o : ℕ} (eo : o ≡ row_of p (r - 1) csv) where
    before : o ≡ row_of (place k) (r - 1) csv
    before = eo ∙ ap (λ q. row_of q (r - 1) csv) ep

    pub row_again : (o ≡ 0 → ⊥) → {x : Found} → x ≡ found_in r 0 14 csv → x ≡ kind_finding k w c r csv
    unfolding kind_finding
    row_again z e = e ∙ rw (ne_eqb k 8 h, ← before, ne_eqb o 0 z)

    module _ (z : o ≡ 0) {s : ℕ} (es : s ≡ length (cell_text r 0 csv)) where
      pub row_nameless : s ≡ 0 → {x : Found} → x ≡ found_in r 0 2 csv → x ≡ kind_finding k w c r csv
      unfolding kind_finding
      row_nameless y e = e ∙ rw (ne_eqb k 8 h, ← before, eq-eqb o 0 z, ← es, eq-eqb s 0 y)

      pub row_numbers : (s ≡ 0 → ⊥) → {n : ℕ} → n ≡ count_of k c → {x : Found} → x ≡ numbers_finding k w n r csv → x ≡ kind_finding k w c r csv
      unfolding kind_finding
      row_numbers y en e = e ∙ rw (en, ne_eqb k 8 h, ← before, eq-eqb o 0 z, ← es, ne_eqb s 0 y)

pub row_of_kind : (w c r : ℕ) (csv : List ℕ) {k : ℕ} → k ≡ kind_at r csv → {x : Found} → x ≡ kind_finding k w c r csv → x ≡ row_finding w c r csv
row_of_kind w c r csv ek e = e ∙ rw ek

-- ---- the first faulty row
rows_step : (w c : ℕ) (csv : List ℕ) (n : ℕ) →
    rows_finding w c (suc n) csv ≡ cond (eqb (rows_finding w c n csv).fault 0) (row_finding w c (suc n) csv) (rows_finding w c n csv)
unfolding rows_finding
rows_step w c csv n = refl

rows_at : (w c : ℕ) (csv : List ℕ) (r : ℕ) → 1 ≤ r →
    rows_finding w c r csv ≡ cond (eqb (rows_finding w c (r - 1) csv).fault 0) (row_finding w c r csv) (rows_finding w c (r - 1) csv)
unfolding rows_finding
rows_at w c csv zero h = absurd (omega arith)
rows_at w c csv (suc r) h = let e : suc r - 1 ≡ r = omega arith in rw e

-- nothing is wrong with the rows before r
pub record RowsRead (w c n : ℕ) (csv : List ℕ) (r : ℕ) : Type 0 where
  pub some : 1 ≤ r
  pub within : r ≤ n + 1
  pub so_far : none ≡ rows_finding w c (r - 1) csv

pub rows_start : {w c n : ℕ} {csv : List ℕ} → RowsRead w c n csv 1
unfolding rows_finding
rows_start = record { some = omega arith; within = omega arith; so_far = refl }

module _ {w c n : ℕ} {csv : List ℕ} {r : ℕ} (d : RowsRead w c n csv r) where
  next_row : rows_finding w c r csv ≡ row_finding w c r csv
  next_row = rows_at w c csv r d.some ∙ rw (← d.so_far)

  pub rows_more : r ≤ n → none ≡ row_finding w c r csv → RowsRead w c n csv (r + 1)
  rows_more l e = record { some = omega arith; within = omega arith; so_far = let i : r + 1 - 1 ≡ r = omega arith in rw i (e ∙ sym next_row) }

  pub rows_found : r ≤ n → {x : Found} → x ≡ row_finding w c r csv → (x.fault ≡ 0 → ⊥) → x ≡ rows_finding w c n csv
  rows_found l {x} e h =
      let q : x ≡ rows_finding w c r csv = e ∙ sym next_row in
      q
      ∙ first_stays (λ y. y.fault) (λ m. rows_finding w c m csv) (λ m. row_finding w c m csv) (rows_step w c csv) r n l (λ z. h (ap (λ y. y.fault) q ∙ z))

  pub rows_end : n + 1 ≤ r → none ≡ rows_finding w c n csv
  rows_end h = let e : n ≡ r - 1 = omega (arith, d.within) in rw e d.so_far

-- ---- the column names
module _ (csv : List ℕ) {n : ℕ} (en : n ≡ sheet_names csv) where
  pub names_none : n ≡ 0 → {x : Found} → x ≡ found_in 0 0 3 csv → x ≡ names_finding csv
  unfolding names_finding
  names_none h e = e ∙ rw (← en, eq-eqb n 0 h)

  module _ (h : n ≡ 0 → ⊥) {f : ℕ} (ef : f ≡ nameless n csv) where
    pub names_good : f ≡ 0 → {x : Found} → x ≡ none → x ≡ names_finding csv
    unfolding names_finding
    names_good z e = e ∙ rw (← en, ne_eqb n 0 h, ← ef, eq-eqb f 0 z)

    pub names_nameless : (f ≡ 0 → ⊥) → {x : Found} → x ≡ found_in 0 f 2 csv → x ≡ names_finding csv
    unfolding names_finding
    names_nameless z e = e ∙ rw (← en, ne_eqb n 0 h, ← ef, ne_eqb f 0 z)

-- ---- the whole CSV
module _ (csv : List ℕ) {p : Place} (e : p ≡ last_place csv) where
  pub last_none : p.row ≡ 0 → 0 ≡ last_row csv
  last_none h = rw (← e) (omega arith)

  pub last_some : p.row - 1 ≡ last_row csv
  last_some = rw (← e)

  pub fault_first : (p.fault ≡ 0 → ⊥) → record { fault = p.fault; line = p.line; row = p.row; field = p.field } ≡ rows_fault csv
  unfolding rows_fault
  fault_first h = rw (← e, ne_eqb p.fault 0 h)

  pub fault_later : p.fault ≡ 0 → {x : Found} → x ≡ content_finding csv → x ≡ rows_fault csv
  unfolding rows_fault
  fault_later h ex = ex ∙ rw (← e, eq-eqb p.fault 0 h)

abbrev at_place : Read → ℕ → Found
at_place q x = record { fault = x; line = q.line; row = q.row; field = q.field }

pub fault_there : (csv : List ℕ) (q : Read) {f : Fault} → q.fault ≡ Some f → place_number q ≡ last_place csv → at_place q (fault_number f) ≡ rows_fault csv
fault_there csv q {f} s e =
    let n : option_number q.fault ≡ fault_number f = ap option_number s in
    ap (at_place q) (sym n) ∙ fault_first csv e (λ z. positive f (sym n ∙ z))

module _ (n : ℕ) (csv : List ℕ) {a : ℕ} (ea : a ≡ row_of 0 n csv) where
  pub missing_hull : a ≡ 0 → {x : Found} → x ≡ without 15 → x ≡ missing_finding n csv
  unfolding missing_finding
  missing_hull h e = e ∙ rw (← ea, eq-eqb a 0 h)

  module _ (h : a ≡ 0 → ⊥) {b : ℕ} (eb : b ≡ row_of 3 n csv) where
    pub missing_steps : b ≡ 0 → {x : Found} → x ≡ without 16 → x ≡ missing_finding n csv
    unfolding missing_finding
    missing_steps z e = e ∙ rw (← ea, ne_eqb a 0 h, ← eb, eq-eqb b 0 z)

    module _ (z : b ≡ 0 → ⊥) {d : ℕ} (ed : d ≡ row_of 4 n csv) where
      pub missing_tolerance : d ≡ 0 → {x : Found} → x ≡ without 17 → x ≡ missing_finding n csv
      unfolding missing_finding
      missing_tolerance y e = e ∙ rw (← ea, ne_eqb a 0 h, ← eb, ne_eqb b 0 z, ← ed, eq-eqb d 0 y)

      pub missing_none : (d ≡ 0 → ⊥) → {x : Found} → x ≡ none → x ≡ missing_finding n csv
      unfolding missing_finding
      missing_none y e = e ∙ rw (← ea, ne_eqb a 0 h, ← eb, ne_eqb b 0 z, ← ed, ne_eqb d 0 y)

module _ (csv : List ℕ) {l : ℕ} (el : l ≡ last_row csv) where
  pub content_many : 15 < l → {x : Found} → x ≡ found_in 16 0 13 csv → x ≡ content_finding csv
  unfolding content_finding
  content_many h e = e ∙ rw (lt-ltb 16 (last_place csv).row (omega arith))

  module _ (h : l ≤ 15) {x : Found} (ex : x ≡ names_finding csv) where
    few : ltb 16 (last_place csv).row ≡ false
    few = le-ltb 16 (last_place csv).row (omega arith)

    pub content_names : (x.fault ≡ 0 → ⊥) → x ≡ content_finding csv
    unfolding content_finding
    content_names p = rw (few, ← ex, ne_eqb x.fault 0 p)

    module _ (p : x.fault ≡ 0) {w : ℕ} (ew : w ≡ row_of 2 l csv) {c : ℕ} (ec : c ≡ sheet_names csv) {y : Found} (ey : y ≡ rows_finding w c l csv) where
      rows_are : y ≡ rows_finding (factor_row csv) (sheet_names csv) (last_row csv) csv
      rows_are = ey ∙ rw (ew, ec, el)

      pub content_rows : (y.fault ≡ 0 → ⊥) → y ≡ content_finding csv
      unfolding content_finding
      content_rows q = rw (few, ← ex, eq-eqb x.fault 0 p, ← rows_are, ne_eqb y.fault 0 q)

      pub content_missing : y.fault ≡ 0 → {z : Found} → z ≡ missing_finding l csv → z ≡ content_finding csv
      unfolding content_finding
      content_missing q e = e ∙ rw (el, few, ← ex, eq-eqb x.fault 0 p, ← rows_are, eq-eqb y.fault 0 q)
