-- What the rows of a sheet's CSV have where they have no fault.
use mathlib.Core.Path.{◌≡◌, refl, sym}
use mathlib.Core.Bool.{Bool, true, false, cond, not}
use mathlib.Core.List.{List, [], ◌∷◌}
use mathlib.Core.Logic.{◌⊎◌, inl, inr}
use Prim.Native.Nat.{ℕ, zero, suc, ◌-◌, ◌≤◌, ◌<◌}
use lib.IntN.{pos}
use native.Mathlib.Omega.{arith}
use borrow.Author.Tests.{eqb-true, eqb-false, ltb-false, ne_eqb}
use lib.Dec.{ltb, eqb}
use lib.ListN.{length}
use Rattle.files.specs.Limits.{step_limit}
use Rattle.csv_bytes.specs.Cells.{is_number, no_bytes, read_from, read, signed, MOST}
use Rattle.csv_numbers.specs.Numbers.{SaysValue}
use Rattle.csv_numbers.proofs.Reading.{read_size}
use Rattle.csv_numbers.proofs.Saying.{says_value}
use Rattle.csv_cells.specs.Cells.{last_place, cell_text}
use Rattle.csv_cells.proofs.Widths.{width_few}
use Rattle.csv_sheet_rows.specs.Findings.{Found}
use Rattle.csv_sheet_rows.specs.Kinds.{kind_at, place, row_of}
use Rattle.csv_sheet_rows.specs.Rows.{count_of, least, most, is_out, number_fault, is_left_out, is_open, value_fault, field_fault, faulty_field, none, found_in, many_finding, numbers_finding, kind_finding, row_finding, rows_finding, sheet_names, names_finding, last_row, factor_row, without, missing_finding, content_finding, rows_fault}
use Rattle.csv_sheet_rows.specs.Sound.{LeftOpen, SaidOrOpen, Sound, magnitude_at, value_in}
use Rattle.csv_sheet_rows.proofs.First.{nothing_both, nothing_each}

abbrev fault_of : Found → ℕ
fault_of x = x.fault

-- ---- a number
record In (a b d : Bool) : Type 0 where
  first : a ≡ false
  second : b ≡ false
  third : d ≡ false

in_by : (a b d : Bool) → cond a true (cond b true d) ≡ false → In a b d
in_by true b d h = absurd (let z : ◌≡◌ {A = ℕ} 0 1 = cc in omega arith)
in_by false true d h = absurd (let z : ◌≡◌ {A = ℕ} 0 1 = cc in omega arith)
in_by false false d h = record { first = refl; second = refl; third = h }

good_by : (a b d : Bool) → ◌≡◌ {A = ℕ} (cond a 5 (cond b (cond d 7 0) 6)) 0 → (b ≡ true) × (d ≡ false)
good_by true b d h = absurd (omega arith)
good_by false true true h = absurd (omega arith)
good_by false true false h = (refl, refl)
good_by false false d h = absurd (omega arith)

-- a number that may not be below 0 is its magnitude
unsigned : (g : Bool) (m : ℕ) → cond g (not (eqb m 0)) false ≡ false → signed g m ≡ pos m
unsigned false m h = refl
unsigned true zero h = refl
unsigned true (suc m) h = absurd (let e : ◌≡◌ {A = Bool} true false = rw (ne_eqb (suc m) 0 (λ z. omega arith)) at h in let z : ◌≡◌ {A = ℕ} 0 1 = cc in omega arith)

most_small : (k : ℕ) → most k < MOST
unfolding most
most_small k = by (eqb k 0) (eqb k 2) (eqb k 3) (eqb k 4)
  where
    by : (a b d e : Bool) → cond a 2000 (cond b 64 (cond d step_limit (cond e 1024000000 32000))) < MOST
    by true b d e = omega arith
    by false true d e = omega arith
    by false false true e = omega arith
    by false false false true = omega arith
    by false false false false = omega arith

-- the number in a field of a row of a kind
record Good (k : ℕ) (text : List ℕ) : Type 0 where
  fits : (read text).magnitude ≤ most k
  enough : least k ≤ (read text).magnitude
  said : SaysValue (signed (read text).negative (read text).magnitude) text
  upward : (k ≡ 0 → ⊥) → signed (read text).negative (read text).magnitude ≡ pos (read text).magnitude

number_good : (k : ℕ) (text : List ℕ) → number_fault k (read text) ≡ 0 → Good k text
unfolding number_fault is_out
number_good k text h =
    let c = read text in
    let g = good_by (eqb c.size 0) (is_number c) (is_out k c) h in
    let p = in_by (ltb (most k) c.magnitude) (ltb c.magnitude (least k)) _ g.1 in
    let l = ltb-false (most k) c.magnitude p.first in
    record {
      fits = l;
      enough = ltb-false c.magnitude (least k) p.second;
      said = says_value text g.0 (omega (arith, most_small k));
      upward = λ n. unsigned c.negative c.magnitude (rw (ne_eqb k 0 n) at p.third);
    }

-- ---- a value that is left open
open_by : (a b d e g : Bool) → cond a (cond b (cond d false (cond e g false)) false) false ≡ true → (a ≡ true) × (b ≡ true) × (d ≡ false) × (g ≡ true)
open_by true true false true g h = (refl, refl, refl, h)
open_by true true false false g h = absurd (let z : ◌≡◌ {A = ℕ} 0 1 = cc in omega arith)
open_by true true true e g h = absurd (let z : ◌≡◌ {A = ℕ} 0 1 = cc in omega arith)
open_by true false d e g h = absurd (let z : ◌≡◌ {A = ℕ} 0 1 = cc in omega arith)
open_by false b d e g h = absurd (let z : ◌≡◌ {A = ℕ} 0 1 = cc in omega arith)

sizeless : (text : List ℕ) → (read text).size ≡ 0 → text ≡ []
unfolding read
sizeless [] h = refl
sizeless (b ∷ text) h = absurd (omega (arith, read_size no_bytes (b ∷ text)))

record Open (k : ℕ) (value : List ℕ) (w : ℕ) (factor : List ℕ) : Type 0 where
  hull : k ≡ 0
  left : LeftOpen (signed (read value).negative (read value).magnitude) value w (read factor).magnitude
  none_read : (read value).magnitude ≡ 0

open_good : (k w : ℕ) (value factor : List ℕ) → is_open k w (read value) (read factor) ≡ true → Open k value w factor
unfolding is_open is_left_out read read_from
open_good k w value factor h =
    let g = open_by (eqb k 0) (eqb (read value).size 0) (eqb w 0) (is_number (read factor)) (eqb (read factor).magnitude 0) h in
    let e = sizeless value (eqb-true (read value).size 0 g.1) in
    record {
      hull = eqb-true k 0 g.0;
      left =
          record {
            no_text = e;
            value_none = rw e refl;
            factors_there = eqb-false w 0 g.2;
            factor_none = eqb-true (read factor).magnitude 0 g.3;
          };
      none_read = rw e refl;
    }

value_good : (k w : ℕ) (value factor : List ℕ) → value_fault k w (read value) (read factor) ≡ 0 → Open k value w factor ⊎ Good k value
unfolding value_fault
value_good k w value factor h = by (is_open k w (read value) (read factor)) refl h
  where
    by : (b : Bool) → is_open k w (read value) (read factor) ≡ b → cond b 0 (number_fault k (read value)) ≡ 0 → Open k value w factor ⊎ Good k value
    by true e h = inl (open_good k w value factor e)
    by false e h = inr (number_good k value h)

closed : {k w : ℕ} {value factor : List ℕ} → (k ≡ 0 → ⊥) → Open k value w factor ⊎ Good k value → Good k value
closed n (inl o) = absurd (n o.hull)
closed n (inr g) = g

-- ---- the numbers of a row
module _ (k w r : ℕ) (csv : List ℕ) where
  -- the field that is found is faulty
  pub faulty_is : (n : ℕ) → (faulty_field k w r n csv ≡ 0 → ⊥) → field_fault k w r (faulty_field k w r n csv) csv ≡ 0 → ⊥
  unfolding faulty_field
  faulty_is zero h z = h refl
  faulty_is (suc n) h z =
      by (eqb (faulty_field k w r n csv) 0) (eqb (field_fault k w r (suc n) csv) 0) refl refl (faulty_is n) h z
    where
      by : (b d : Bool) → eqb (faulty_field k w r n csv) 0 ≡ b → eqb (field_fault k w r (suc n) csv) 0 ≡ d →
          ((faulty_field k w r n csv ≡ 0 → ⊥) → field_fault k w r (faulty_field k w r n csv) csv ≡ 0 → ⊥) → (cond b (cond d 0 (suc n)) (faulty_field k w r n csv) ≡ 0 → ⊥) → field_fault k w r (cond b (cond d 0 (suc n)) (faulty_field k w r n csv)) csv ≡ 0 → ⊥
      by true true p q g h z = h refl
      by true false p q g h z = eqb-false (field_fault k w r (suc n) csv) 0 q z
      by false d p q g h z = g h z

  each_by : (f : ℕ) (b : Bool) → eqb (field_fault k w r f csv) 0 ≡ b → 1 ≤ f → cond b 0 f ≡ 0 → field_fault k w r f csv ≡ 0
  each_by f true e l h = eqb-true (field_fault k w r f csv) 0 e
  each_by f false e l h = absurd (omega arith)

  numbers_by : (n : ℕ) (b d : Bool) → eqb n 0 ≡ b → eqb (faulty_field k w r n csv) 0 ≡ d → 1 ≤ n →
      (cond b none (cond d (many_finding n r csv) (found_in r (faulty_field k w r n csv) (field_fault k w r (faulty_field k w r n csv) csv) csv))).fault ≡ 0 → faulty_field k w r n csv ≡ 0
  numbers_by n true d e q l h = absurd (omega (arith, eqb-true n 0 e))
  numbers_by n false true e q l h = eqb-true (faulty_field k w r n csv) 0 q
  numbers_by n false false e q l h = absurd (faulty_is n (eqb-false (faulty_field k w r n csv) 0 q) h)

  numbers_good : (n : ℕ) → 1 ≤ n → (numbers_finding k w n r csv).fault ≡ 0 → (f : ℕ) → 1 ≤ f → f ≤ n → field_fault k w r f csv ≡ 0
  unfolding numbers_finding faulty_field
  numbers_good n p h f l u =
      each_by f (eqb (field_fault k w r f csv) 0) refl l
      (nothing_each (λ x. x) (λ m. faulty_field k w r m csv) (λ m. cond (eqb (field_fault k w r m csv) 0) 0 m) (λ m. refl) n
      (numbers_by n (eqb n 0) (eqb (faulty_field k w r n csv) 0) refl refl p h) f l u)

  kind_by : (b d : Bool) (x : Found) → (cond b (cond d (found_in r 0 2 csv) x) (found_in r 0 14 csv)).fault ≡ 0 → x.fault ≡ 0
  kind_by true true x h = absurd (omega arith)
  kind_by true false x h = h
  kind_by false d x h = absurd (omega arith)

  kind_good : (c : ℕ) → (k ≡ 8 → ⊥) → (kind_finding k w c r csv).fault ≡ 0 → (numbers_finding k w (count_of k c) r csv).fault ≡ 0
  unfolding kind_finding
  kind_good c p h =
      kind_by (eqb (row_of (place k) (r - 1) csv) 0) (eqb (length (cell_text r 0 csv)) 0) (numbers_finding k w (count_of k c) r csv)
      (rw (ne_eqb k 8 p) at h)

  -- each of them is in range, or left open
  row_in : (c : ℕ) → (k ≡ 8 → ⊥) → (kind_finding k w c r csv).fault ≡ 0 → (f : ℕ) → 1 ≤ f → f ≤ count_of k c → Open k (cell_text r f csv) w (cell_text w f csv) ⊎ Good k (cell_text r f csv)
  unfolding field_fault
  row_in c p h f l u = value_good k w (cell_text r f csv) (cell_text w f csv) (numbers_good (count_of k c) (omega arith) (kind_good c p h) f l u)

-- ---- the row of a kind
pub record RowFound (k n : ℕ) (csv : List ℕ) (r : ℕ) : Type 0 where
  pub after_names : 1 ≤ r
  pub within : r ≤ n
  pub stands : place (kind_at r csv) ≡ k

pub row_found : (k n : ℕ) (csv : List ℕ) → (row_of k n csv ≡ 0 → ⊥) → RowFound k n csv (row_of k n csv)
unfolding row_of
row_found k zero csv h = absurd (h refl)
row_found k (suc n) csv h = by (eqb (place (kind_at (suc n) csv)) k) refl (row_found k n csv) h
  where
    by : (b : Bool) → eqb (place (kind_at (suc n) csv)) k ≡ b → ((row_of k n csv ≡ 0 → ⊥) → RowFound k n csv (row_of k n csv)) →
        (cond b (suc n) (row_of k n csv) ≡ 0 → ⊥) → RowFound k (suc n) csv (cond b (suc n) (row_of k n csv))
    by true e i g = record { after_names = omega arith; within = omega arith; stands = eqb-true (place (kind_at (suc n) csv)) k e }
    by false e i g =
        let d = i g in
        record { after_names = d.after_names; within = omega (arith, d.within); stands = d.stands }

place_by : (x k : ℕ) (b : Bool) → eqb x 5 ≡ b → cond b 4 x ≡ k → (x ≡ k) ⊎ ((x ≡ 5) × (k ≡ 4))
place_by x k true e h = inr (eqb-true x 5 e, sym h)
place_by x k false e h = inl h

kind_is : (x k : ℕ) → (k ≡ 4 → ⊥) → place x ≡ k → x ≡ k
kind_is x k p h = by (place_by x k (eqb x 5) refl h)
  where
    by : (x ≡ k) ⊎ ((x ≡ 5) × (k ≡ 4)) → x ≡ k
    by (inl e) = e
    by (inr e) = absurd (p e.1)

tolerance_is : (x : ℕ) → place x ≡ 4 → (x ≡ 4) ⊎ (x ≡ 5)
tolerance_is x h = by (place_by x 4 (eqb x 5) refl h)
  where
    by : (x ≡ 4) ⊎ ((x ≡ 5) × (◌≡◌ {A = ℕ} 4 4)) → (x ≡ 4) ⊎ (x ≡ 5)
    by (inl e) = inl e
    by (inr e) = inr e.0

-- ---- the whole CSV
module _ (csv : List ℕ) (h : (rows_fault csv).fault ≡ 0) where
  content_good : (content_finding csv).fault ≡ 0
  unfolding rows_fault
  content_good =
      (nothing_both fault_of (record { fault = (last_place csv).fault; line = (last_place csv).line; row = (last_place csv).row; field = (last_place csv).field }) (content_finding csv) h).1

  parts_by : (b : Bool) (x y : Found) → ltb 16 (last_place csv).row ≡ b → (cond b (found_in 16 0 13 csv) (cond (eqb x.fault 0) y x)).fault ≡ 0 →
      (last_row csv ≤ 15) × (x.fault ≡ 0) × (y.fault ≡ 0)
  parts_by true x y e g = absurd (omega arith)
  parts_by false x y e g = (omega (arith, ltb-false 16 (last_place csv).row e), (nothing_both fault_of x y g).0, (nothing_both fault_of x y g).1)

  rows_and_missing : Found
  rows_and_missing = cond (eqb (rows_finding (factor_row csv) (sheet_names csv) (last_row csv) csv).fault 0) (missing_finding (last_row csv) csv) (rows_finding (factor_row csv) (sheet_names csv) (last_row csv) csv)

  parts : (last_row csv ≤ 15) × ((names_finding csv).fault ≡ 0) × (rows_and_missing.fault ≡ 0)
  unfolding content_finding rows_and_missing
  parts = parts_by (ltb 16 (last_place csv).row) (names_finding csv) rows_and_missing refl content_good

  rows_good : ((rows_finding (factor_row csv) (sheet_names csv) (last_row csv) csv).fault ≡ 0) × ((missing_finding (last_row csv) csv).fault ≡ 0)
  unfolding rows_and_missing
  rows_good = nothing_both fault_of (rows_finding (factor_row csv) (sheet_names csv) (last_row csv) csv) (missing_finding (last_row csv) csv) parts.2

  names_by : (b : Bool) (x : Found) → eqb (sheet_names csv) 0 ≡ b → (cond b (found_in 0 0 3 csv) x).fault ≡ 0 → sheet_names csv ≡ 0 → ⊥
  names_by true x e g = absurd (omega arith)
  names_by false x e g = eqb-false (sheet_names csv) 0 e

  named : sheet_names csv ≡ 0 → ⊥
  unfolding names_finding
  named = names_by (eqb (sheet_names csv) 0) _ refl parts.1

  row_good : (r : ℕ) → 1 ≤ r → r ≤ last_row csv → (row_finding (factor_row csv) (sheet_names csv) r csv).fault ≡ 0
  unfolding rows_finding
  row_good =
      nothing_each fault_of (λ n. rows_finding (factor_row csv) (sheet_names csv) n csv) (λ n. row_finding (factor_row csv) (sheet_names csv) n csv) (λ n. refl) (last_row csv) rows_good.0

  missing_by : (a b d : Bool) → (cond a (without 15) (cond b (without 16) (cond d (without 17) none))).fault ≡ 0 → (a ≡ false) × (b ≡ false) × (d ≡ false)
  missing_by true b d g = absurd (omega arith)
  missing_by false true d g = absurd (omega arith)
  missing_by false false true g = absurd (omega arith)
  missing_by false false false g = (refl, refl, refl)

  there : (eqb (row_of 0 (last_row csv) csv) 0 ≡ false) × (eqb (row_of 3 (last_row csv) csv) 0 ≡ false) × (eqb (row_of 4 (last_row csv) csv) 0 ≡ false)
  unfolding missing_finding
  there = missing_by _ _ _ rows_good.1

  -- the numbers of the row that is found for a kind
  found_either : (k x : ℕ) → (row_of k (last_row csv) csv ≡ 0 → ⊥) → kind_at (row_of k (last_row csv) csv) csv ≡ x → (x ≡ 8 → ⊥) →
      (f : ℕ) → 1 ≤ f → f ≤ count_of x (sheet_names csv) → Open x (cell_text (row_of k (last_row csv) csv) f csv) (factor_row csv) (cell_text (factor_row csv) f csv) ⊎ Good x (cell_text (row_of k (last_row csv) csv) f csv)
  found_either k x p e q =
      let r = row_of k (last_row csv) csv in
      let d = row_found k (last_row csv) csv p in
      row_in x (factor_row csv) r csv (sheet_names csv) q (rw e at (row_good r d.after_names d.within))

  found_in_range : (k x : ℕ) → (row_of k (last_row csv) csv ≡ 0 → ⊥) → kind_at (row_of k (last_row csv) csv) csv ≡ x → (x ≡ 8 → ⊥) → (x ≡ 0 → ⊥) →
      (f : ℕ) → 1 ≤ f → f ≤ count_of x (sheet_names csv) → Good x (cell_text (row_of k (last_row csv) csv) f csv)
  found_in_range k x p e q n f l u = closed n (found_either k x p e q f l u)

  -- those of the hull
  value_fits : (r f : ℕ) → Open 0 (cell_text r f csv) (factor_row csv) (cell_text (factor_row csv) f csv) ⊎ Good 0 (cell_text r f csv) → magnitude_at r f csv ≤ 2000
  unfolding most
  value_fits r f (inl o) = omega (arith, o.none_read)
  value_fits r f (inr g) = g.fits

  value_said : (r f : ℕ) → Open 0 (cell_text r f csv) (factor_row csv) (cell_text (factor_row csv) f csv) ⊎ Good 0 (cell_text r f csv) →
      SaidOrOpen (value_in r f csv) (cell_text r f csv) (factor_row csv) (magnitude_at (factor_row csv) f csv)
  value_said r f (inl o) = inr o.left
  value_said r f (inr g) = inl g.said

  kind_found : (k : ℕ) → (k ≡ 4 → ⊥) → (row_of k (last_row csv) csv ≡ 0 → ⊥) → kind_at (row_of k (last_row csv) csv) csv ≡ k
  kind_found k q p = kind_is _ k q (row_found k (last_row csv) csv p).stands

  -- the row of factors, steps or tolerance
  upward_said : (k x : ℕ) → (row_of k (last_row csv) csv ≡ 0 → ⊥) → kind_at (row_of k (last_row csv) csv) csv ≡ x → (x ≡ 8 → ⊥) → (x ≡ 0 → ⊥) →
      (f : ℕ) → 1 ≤ f → f ≤ count_of x (sheet_names csv) → SaysValue (pos (magnitude_at (row_of k (last_row csv) csv) f csv)) (cell_text (row_of k (last_row csv) csv) f csv)
  upward_said k x p e q n f l u = let g = found_in_range k x p e q n f l u in rw (g.upward n) at g.said

  tolerance_found : (row_of 4 (last_row csv) csv ≡ 0 → ⊥) → (kind_at (row_of 4 (last_row csv) csv) csv ≡ 4) ⊎ (kind_at (row_of 4 (last_row csv) csv) csv ≡ 5) →
      SaysValue (pos (magnitude_at (row_of 4 (last_row csv) csv) 1 csv)) (cell_text (row_of 4 (last_row csv) csv) 1 csv)
  unfolding count_of
  tolerance_found d (inl e) = upward_said 4 4 d e (λ z. omega arith) (λ z. omega arith) 1 (omega arith) (omega arith)
  tolerance_found d (inr e) = upward_said 4 5 d e (λ z. omega arith) (λ z. omega arith) 1 (omega arith) (omega arith)

  pub sound : Sound csv
  unfolding count_of most least
  sound =
      let a : row_of 0 (last_row csv) csv ≡ 0 → ⊥ = eqb-false _ 0 there.0 in
      let b : row_of 3 (last_row csv) csv ≡ 0 → ⊥ = eqb-false _ 0 there.1 in
      let d : row_of 4 (last_row csv) csv ≡ 0 → ⊥ = eqb-false _ 0 there.2 in
      let v = found_either 0 0 a (kind_found 0 (λ e. omega arith) a) (λ e. omega arith) in
      let s = found_in_range 3 3 b (kind_found 3 (λ e. omega arith) b) (λ e. omega arith) (λ e. omega arith) 1 (omega arith) (omega arith) in
      record {
        some_columns = omega (arith, named);
        few_columns = omega (arith, width_few 0 csv);
        few_rows = parts.0;
        hull_there = a;
        steps_there = b;
        tolerance_there = d;
        hull_kind = kind_found 0 (λ e. omega arith) a;
        steps_kind = kind_found 3 (λ e. omega arith) b;
        tolerance_kind = tolerance_is _ (row_found 4 (last_row csv) csv d).stands;
        values_fit = λ f l u. value_fits _ f (v f l u);
        factors_fit = λ g f l u. (found_in_range 2 2 g (kind_found 2 (λ e. omega arith) g) (λ e. omega arith) (λ e. omega arith) f l u).fits;
        some_steps = s.enough;
        few_steps = s.fits;
        tolerance_fits = λ e. (found_in_range 4 4 d e (λ z. omega arith) (λ z. omega arith) 1 (omega arith) (omega arith)).fits;
        each_fits = λ e. (found_in_range 4 5 d e (λ z. omega arith) (λ z. omega arith) 1 (omega arith) (omega arith)).fits;
        values_said = λ f l u. value_said _ f (v f l u);
        factors_said = λ g f l u. upward_said 2 2 g (kind_found 2 (λ e. omega arith) g) (λ e. omega arith) (λ e. omega arith) f l u;
        steps_said = upward_said 3 3 b (kind_found 3 (λ e. omega arith) b) (λ e. omega arith) (λ e. omega arith) 1 (omega arith) (omega arith);
        tolerance_said = tolerance_found d (tolerance_is _ (row_found 4 (last_row csv) csv d).stands);
      }
