-- What an accepted file gives: a refusal of 0 means that each test was passed.
use mathlib.Core.Path.{◌≡◌, refl, sym, ◌∙◌}
use mathlib.Core.Bool.{Bool, true, false, ◌&&◌, ◌||◌, not, cond}
use mathlib.Core.List.{List, [], ◌∷◌}
use Prim.Native.Nat.{ℕ, zero, suc, ◌*◌, ◌-◌, ◌≤◌, ◌<◌}
use native.Mathlib.Omega.{arith}
use borrow.Author.Tests.{ne_eqb, eqb-true, eqb-false, ltb-false, leb-true}
use lib.Dec.{eqb, leb, ltb}
use lib.ListN.{length, get_or, length-take, length-drop, length-replicate}
use lib.IntN.{ℤ, pos, nat_abs}
use Rattle.frank_wolfe.specs.Vectors.{sum}
use Rattle.files.specs.Bytes.{number, values, same, between, in_range, all_in_range, length_in_range, trailer, body, reaches, body_refusal}
use Rattle.files.specs.Book.{boats, columns, rows, rows_from, all_rows_in_range, book_refusal}
use Rattle.files.specs.Sheet.{sheet, sheet_columns, WSH1, WSH2, sheet_lettered, factor_bytes, sheet_back, SheetWhole, sheet_refusal_in, sheet_refusal, files_refusal}
use Rattle.files.specs.Fits.{BookFits, SheetFits}
use Rattle.files.proofs.Values.{in_range_bound}
use Rattle.files.proofs.Rows.{length_values, length_rows_from, rows_flat}
use Rattle.files.proofs.Refusal.{and_true, between_true}
use Rattle.files.specs.Limits.{file_limit, step_limit}

-- a refusal of 0 passed its first test
pub passed : (g : Bool) (k x : ℕ) → cond (not g) (suc k) x ≡ 0 → (g ≡ true) × (x ≡ 0)
passed true k x e = (refl, e)
passed false k x e = absurd (omega arith)

passed_not : (g : Bool) (k x : ℕ) → cond g (suc k) x ≡ 0 → (g ≡ false) × (x ≡ 0)
passed_not true k x e = absurd (omega arith)
passed_not false k x e = (refl, e)

pub passed_last : (g : Bool) (k : ℕ) → cond g 0 (suc k) ≡ 0 → g ≡ true
passed_last true k e = refl
passed_last false k e = absurd (omega arith)

-- ---- bounds on values
pub value_bounds : (xs : List ℤ) → all_in_range xs ≡ true → (j : ℕ) → nat_abs (get_or xs j (pos 0)) ≤ 2000
unfolding all_in_range
value_bounds [] e j = omega arith
value_bounds (x ∷ xs) e zero = in_range_bound x (and_true (in_range x) (all_in_range xs) e).0
value_bounds (x ∷ xs) e (suc j) = value_bounds xs (and_true (in_range x) (all_in_range xs) e).1 j

pub row_in_range : (vs : List (List ℤ)) → all_rows_in_range vs ≡ true → (i : ℕ) → all_in_range (get_or vs i []) ≡ true
unfolding all_rows_in_range all_in_range
row_in_range [] e i = refl
row_in_range (v ∷ vs) e zero = (and_true (all_in_range v) (all_rows_in_range vs) e).0
row_in_range (v ∷ vs) e (suc i) = row_in_range vs (and_true (all_in_range v) (all_rows_in_range vs) e).1 i

pub row_length : (n c i : ℕ) (bs : List ℕ) → i < n → length (get_or (rows_from n c bs) i []) ≡ c
unfolding rows_from
row_length zero c i bs h = absurd (omega arith)
row_length (suc n) c zero bs h = length_values c bs
row_length (suc n) c (suc i) bs h = row_length n c i _ (omega arith)

-- ---- the body
record BodyFits (size back count : ℕ) (bs : List ℕ) : Type 0 where
  held : back ≤ length bs - size
  in_body : all_in_range (values count (body size back bs)) ≡ true

body_accepted : (size back count place range : ℕ) (bs : List ℕ) → body_refusal size back count (suc place) (suc range) bs ≡ 0 → BodyFits size back count bs
unfolding body_refusal reaches
body_accepted size back count place range bs e =
    let own = number 0 4 (trailer size bs) in
    let p = passed (eqb own back && leb own (length bs - size)) place _ e in
    let q = and_true (eqb own back) (leb own (length bs - size)) p.0 in
    let r : own ≡ back = eqb-true own back q.0 in
    let h : own ≤ length bs - size = leb-true own (length bs - size) q.1 in
    record { held = omega arith; in_body = passed_last _ range p.1 }

-- a sheet whose body passes holds it
pub body_whole : (s : List ℕ) (m : ℕ) {back r : ℕ} → 16 ≤ length s → back ≡ sheet_back s → r ≡ body_refusal 16 back m 16 17 s → r ≡ 0 → SheetWhole s
body_whole s m {back} h eb er z = omega (arith, (body_accepted 16 back m 15 16 s (sym er ∙ z)).held)

-- ---- the target
target_long : (s : List ℕ) → length (sheet s).target ≡ sheet_columns s
unfolding sheet
target_long s = length_values (sheet_columns s) _

target_good : (s : List ℕ) → all_in_range (values (sheet_columns s) (body 16 (sheet_back s) s)) ≡ true → all_in_range (sheet s).target ≡ true
unfolding sheet
target_good s e = e

-- ---- the factors
-- there are as many as columns
factors_by : (t : Bool) (s : List ℕ) → sheet_lettered WSH2 s ≡ t → SheetWhole s → length (sheet s).factors ≡ sheet_columns s
unfolding sheet factor_bytes body
factors_by true s e w =
    rw (e, length-drop, length-take, length-drop) (omega (arith, (rw e at w)))
factors_by false s e w = rw (e, length-replicate)

pub factors_long : (s : List ℕ) → SheetWhole s → length (sheet s).factors ≡ sheet_columns s
factors_long s w = factors_by (sheet_lettered WSH2 s) s refl w

-- ---- fleet book and sheet
pub book_accepted : (b : List ℕ) → book_refusal b ≡ 0 → BookFits b
unfolding book_refusal length_in_range rows
book_accepted b e =
    let p1 = passed (between 12 file_limit (length b)) 0 _ e in
    let p2 = passed (same _ _) 1 _ p1.1 in
    let p3 = passed (between 1 256 (boats b)) 2 _ p2.1 in
    let p4 = passed (between 1 64 (columns b)) 3 _ p3.1 in
    let fit = body_accepted 12 (2 * (boats b * columns b)) (boats b * columns b) 4 5 b p4.1 in
    let size = between_true 12 file_limit (length b) p1.0 in
    let n = between_true 1 256 (boats b) p3.0 in
    let c = between_true 1 64 (columns b) p4.0 in
    let good = rows_flat (boats b) (columns b) _ ∙ fit.in_body in
    record {
      at_least = size.0;
      at_most = size.1;
      some_boats = n.0;
      most_boats = n.1;
      some_columns = c.0;
      most_columns = c.1;
      whole = omega (arith, fit.held, size.0);
      rows_in_range = good;
      row_count = length_rows_from (boats b) (columns b) _;
      row_length = λ i h. row_length (boats b) (columns b) i _ h;
      entry_bound = λ i j. value_bounds _ (row_in_range _ good i) j;
    }

-- a refusal by 0 is none of the body's, and none after it
passed_body : (n x : ℕ) → cond (not (eqb n 0)) n x ≡ 0 → (n ≡ 0) × (x ≡ 0)
passed_body zero x e = (refl, e)
passed_body (suc n) x e = absurd (omega (arith, simp (ne_eqb (suc n) 0 (λ z. omega arith)) at e))

-- what passes with columns from `least` to `most`
pub record SheetPasses (least most : ℕ) (s : List ℕ) : Type 0 where
  pub fits : SheetFits (sheet_columns s) s
  pub least_columns : least ≤ sheet_columns s
  pub most_columns : sheet_columns s ≤ most

pub sheet_passed : (a z : ℕ) (s : List ℕ) → sheet_refusal_in a z s ≡ 0 → SheetPasses a z s
unfolding sheet_refusal_in length_in_range
sheet_passed a z s e =
    let p1 = passed (between 16 file_limit (length s)) 10 _ e in
    let p2 = passed (sheet_lettered WSH1 s || sheet_lettered WSH2 s) 11 _ p1.1 in
    let p3 = passed (between a z (sheet_columns s)) 12 _ p2.1 in
    let p4 = passed (between 1 step_limit (sheet s).steps) 13 _ p3.1 in
    let p5 = passed_not (ltb 1024000000 (sheet s).tolerance) 14 _ p4.1 in
    let p6 = passed_body _ _ p5.1 in
    let fit = body_accepted 16 (sheet_back s) (sheet_columns s) 15 16 s p6.0 in
    let size = between_true 16 file_limit (length s) p1.0 in
    let c = between_true a z (sheet_columns s) p3.0 in
    let k = between_true 1 step_limit (sheet s).steps p4.0 in
    let f = between_true 1 64 (sum (sheet s).factors) (passed_last _ 45 p6.1) in
    let w : SheetWhole s = omega (arith, fit.held, size.0) in
    let good : all_in_range (sheet s).target ≡ true = target_good s fit.in_body in
    record {
      fits = record {
        at_least = size.0;
        at_most = size.1;
        same_columns = refl;
        whole = w;
        target_length = target_long s;
        target_in_range = good;
        target_bound = λ j. value_bounds _ good j;
        factor_count = factors_long s w;
        some_factor = f.0;
        few_factors = f.1;
        some_steps = k.0;
        most_steps = k.1;
        most_tolerance = ltb-false _ _ p5.0;
      };
      least_columns = c.0;
      most_columns = c.1;
    }

pub sheet_accepted : (c : ℕ) (s : List ℕ) → sheet_refusal c s ≡ 0 → SheetFits c s
sheet_accepted c s e =
    let p = sheet_passed c c s e in
    let q : sheet_columns s ≡ c = omega (arith, p.least_columns, p.most_columns) in
    rw q at p.fits

pub files_accepted : (b s : List ℕ) → files_refusal b s ≡ 0 → BookFits b × SheetFits (columns b) s
unfolding files_refusal
files_accepted b s e = by (eqb (book_refusal b) 0) refl e
  where
    by : (t : Bool) → eqb (book_refusal b) 0 ≡ t → cond t (sheet_refusal (columns b) s) (book_refusal b) ≡ 0 → BookFits b × SheetFits (columns b) s
    by true t e = (book_accepted b (eqb-true (book_refusal b) 0 t), sheet_accepted (columns b) s e)
    by false t e = absurd (eqb-false (book_refusal b) 0 t e)
