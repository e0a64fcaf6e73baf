-- What a refusal by 6, 13 or 17 gives: each test before it was passed.
use mathlib.Core.Path.{◌≡◌, refl}
use mathlib.Core.Bool.{Bool, true, false, ◌&&◌, ◌||◌, not, cond}
use mathlib.Core.List.{List}
use Prim.Native.Nat.{ℕ, zero, suc, ◌+◌, ◌*◌, ◌-◌, ◌≤◌, ◌<◌}
use native.Mathlib.Omega.{arith}
use borrow.Author.Tests.{ne_eqb, eqb-true, leb-true}
use lib.Dec.{eqb, leb, ltb}
use lib.ListN.{length, drop}
use Rattle.frank_wolfe.specs.Vectors.{sum}
use Rattle.files.specs.Limits.{file_limit, step_limit}
use Rattle.files.specs.Bytes.{number, values, same, between, all_in_range, length_in_range, trailer, body, reaches, body_refusal}
use Rattle.files.specs.Book.{boats, columns, BookWhole, rows_offset, book_refusal}
use Rattle.files.specs.Sheet.{sheet, sheet_columns, WSH1, WSH2, sheet_lettered, sheet_back, SheetWhole, target_offset, sheet_refusal_in, sheet_refusal, files_refusal}
use Rattle.files.proofs.Rows.{values_take_some}
use Rattle.files.proofs.Access.{target_at}
use Rattle.files.proofs.Refusal.{and_true, between_true}
use Rattle.refusal_details.specs.Details.{first_out, book_values}
use Rattle.refusal_details.proofs.Scan.{OutAt, out_at}

-- a refusal by another number passed this test
passed : (g : Bool) {k n x : ℕ} → (k ≡ n → ⊥) → cond (not g) k x ≡ n → (g ≡ true) × (x ≡ n)
passed true d e = (refl, e)
passed false d e = absurd (d e)

passed_not : (g : Bool) {k n x : ℕ} → (k ≡ n → ⊥) → cond g k x ≡ n → (g ≡ false) × (x ≡ n)
passed_not true d e = absurd (d e)
passed_not false d e = (refl, e)

-- ---- the body
record BodyOut (size back count : ℕ) (bs : List ℕ) : Type 0 where
  held : back ≤ length bs - size
  out : all_in_range (values count (body size back bs)) ≡ false

body_out : (size back count place range : ℕ) (bs : List ℕ) → (place ≡ range → ⊥) → (0 ≡ range → ⊥) → body_refusal size back count place range bs ≡ range → BodyOut size back count bs
unfolding body_refusal reaches
body_out size back count place range bs d z e =
    let own = number 0 4 (trailer size bs) in
    let p = passed (eqb own back && leb own (length bs - size)) d e in
    let q = and_true (eqb own back) (leb own (length bs - size)) p.0 in
    let r : own ≡ back = eqb-true own back q.0 in
    let h : own ≤ length bs - size = leb-true own (length bs - size) q.1 in
    record { held = omega arith; out = (passed_not _ z p.1).0 }

by_range : (size back count place range : ℕ) (bs : List ℕ) {n : ℕ} → (place ≡ n → ⊥) → (0 ≡ n → ⊥) → body_refusal size back count place range bs ≡ n → range ≡ n
unfolding body_refusal
by_range size back count place range bs d z e =
    let own = number 0 4 (trailer size bs) in
    let p = passed (eqb own back && reaches size own bs) d e in
    (passed_not (all_in_range (values count (body size back bs))) z p.1).1

-- ---- the book
pub record BookOut (b : List ℕ) : Type 0 where
  pub at_least : 12 ≤ length b
  pub at_most : length b ≤ file_limit
  pub some_columns : 1 ≤ columns b
  pub whole : BookWhole b
  pub out : all_in_range (book_values b) ≡ false

pub book_out : (b : List ℕ) → book_refusal b ≡ 6 → BookOut b
unfolding book_refusal length_in_range book_values
book_out b e =
    let p1 = passed (between 12 file_limit (length b)) (λ z. omega arith) e in
    let p2 = passed (same _ _) (λ z. omega arith) p1.1 in
    let p3 = passed (between 1 256 (boats b)) (λ z. omega arith) p2.1 in
    let p4 = passed (between 1 64 (columns b)) (λ z. omega arith) p3.1 in
    let fit = body_out 12 (2 * (boats b * columns b)) (boats b * columns b) 5 6 b (λ z. omega arith) (λ z. omega arith) p4.1 in
    let size = between_true 12 file_limit (length b) p1.0 in
    record {
      at_least = size.0;
      at_most = size.1;
      some_columns = (between_true 1 64 (columns b) p4.0).0;
      whole = omega (arith, fit.held, size.0);
      out = fit.out;
    }

-- its values, from the first row on
pub book_values_at : (b : List ℕ) → book_values b ≡ values (boats b * columns b) (drop (rows_offset b) b)
unfolding book_values body
book_values_at b = values_take_some (boats b * columns b) (2 * (boats b * columns b)) (drop (rows_offset b) b) (omega arith)

pub book_found : (b : List ℕ) → book_refusal b ≡ 6 → {at n c k : ℕ} → at ≡ rows_offset b → n ≡ boats b → c ≡ columns b → k ≡ first_out (values (n * c) (drop at b)) → OutAt (book_values b) b at k
book_found b r {at} {n} {c} ea en ec ek =
    let o = book_out b r in
    let h : at + 2 * (boats b * columns b) ≤ length b = omega (arith, o.whole) in
    out_at b (n * c) (rw (ea, en, ec) (book_values_at b)) o.out (rw (en, ec) h) o.at_most ek

-- no book is refused by a number above 6
book_few : (b : List ℕ) {n : ℕ} → 6 < n → book_refusal b ≡ n → ⊥
unfolding book_refusal
book_few b {n} h e =
    let p1 = passed (length_in_range 12 b) (λ z. omega arith) e in
    let p2 = passed (same _ _) (λ z. omega arith) p1.1 in
    let p3 = passed (between 1 256 (boats b)) (λ z. omega arith) p2.1 in
    let p4 = passed (between 1 64 (columns b)) (λ z. omega arith) p3.1 in
    omega (arith, by_range 12 (2 * (boats b * columns b)) (boats b * columns b) 5 6 b (λ z. omega arith) (λ z. omega arith) p4.1)

-- ---- the sheet
-- past the columns, every number but the body's is left out
passed_body : (m : ℕ) (g : Bool) {n : ℕ} → (0 ≡ n → ⊥) → (46 ≡ n → ⊥) → cond (not (eqb m 0)) m (cond g 0 46) ≡ n → m ≡ n
passed_body zero true d f e = absurd (d e)
passed_body zero false d f e = absurd (f e)
passed_body (suc m) g d f e = simp (ne_eqb (suc m) 0 (λ z. omega arith)) at e

pub record SheetLong (s : List ℕ) : Type 0 where
  pub at_least : 16 ≤ length s
  pub at_most : length s ≤ file_limit

sheet_long : (a z : ℕ) {n : ℕ} (s : List ℕ) → (11 ≡ n → ⊥) → sheet_refusal_in a z s ≡ n → SheetLong s
unfolding sheet_refusal_in length_in_range
sheet_long a z s d e =
    let size = between_true 16 file_limit (length s) (passed (between 16 file_limit (length s)) d e).0 in
    record { at_least = size.0; at_most = size.1 }

-- a number that is none of those before the body, nor after it, is the body's
record Other (n : ℕ) : Type 0 where
  not_0 : 0 ≡ n → ⊥
  not_11 : 11 ≡ n → ⊥
  not_12 : 12 ≡ n → ⊥
  not_13 : 13 ≡ n → ⊥
  not_14 : 14 ≡ n → ⊥
  not_15 : 15 ≡ n → ⊥
  not_46 : 46 ≡ n → ⊥

of_body : (a z : ℕ) {n : ℕ} (s : List ℕ) → Other n → sheet_refusal_in a z s ≡ n → body_refusal 16 (sheet_back s) (sheet_columns s) 16 17 s ≡ n
unfolding sheet_refusal_in
of_body a z s o e =
    let p1 = passed (length_in_range 16 s) o.not_11 e in
    let p2 = passed (sheet_lettered WSH1 s || sheet_lettered WSH2 s) o.not_12 p1.1 in
    let p3 = passed (between a z (sheet_columns s)) o.not_13 p2.1 in
    let p4 = passed (between 1 step_limit (sheet s).steps) o.not_14 p3.1 in
    let p5 = passed_not (ltb 1024000000 (sheet s).tolerance) o.not_15 p4.1 in
    passed_body _ (between 1 64 (sum (sheet s).factors)) o.not_0 o.not_46 p5.1

other_6 : Other 6
other_6 =
    record {
      not_0 = λ z. omega arith;
      not_11 = λ z. omega arith;
      not_12 = λ z. omega arith;
      not_13 = λ z. omega arith;
      not_14 = λ z. omega arith;
      not_15 = λ z. omega arith;
      not_46 = λ z. omega arith;
    }

other_17 : Other 17
other_17 =
    record {
      not_0 = λ z. omega arith;
      not_11 = λ z. omega arith;
      not_12 = λ z. omega arith;
      not_13 = λ z. omega arith;
      not_14 = λ z. omega arith;
      not_15 = λ z. omega arith;
      not_46 = λ z. omega arith;
    }

pub record SheetOut (s : List ℕ) : Type 0 where
  pub long : SheetLong s
  pub whole : SheetWhole s
  pub out : all_in_range (sheet s).target ≡ false

pub sheet_out : (c : ℕ) (s : List ℕ) → sheet_refusal c s ≡ 17 → SheetOut s
unfolding sheet
sheet_out c s e =
    let fit = body_out 16 (sheet_back s) (sheet_columns s) 16 17 s (λ z. omega arith) (λ z. omega arith) (of_body c c s other_17 e) in
    let long : SheetLong s = sheet_long c c s (λ z. omega arith) e in
    record { long = long; whole = omega (arith, fit.held, long.at_least); out = fit.out }

pub target_found : (c : ℕ) (s : List ℕ) → sheet_refusal c s ≡ 17 → {at n k : ℕ} → at ≡ target_offset s → n ≡ sheet_columns s → k ≡ first_out (values n (drop at s)) → OutAt (sheet s).target s at k
target_found c s r {at} {n} ea en ek =
    let o = sheet_out c s r in
    out_at s n (rw (ea, en) (target_at s)) o.out (omega (arith, o.whole)) o.long.at_most ek

pub sheet_columns_out : (c : ℕ) (s : List ℕ) → sheet_refusal c s ≡ 13 → 16 ≤ length s
sheet_columns_out c s e = (sheet_long c c s (λ z. omega arith) e).at_least

-- no sheet is refused by 6
not_by_6 : (c : ℕ) (s : List ℕ) → sheet_refusal c s ≡ 6 → ⊥
not_by_6 c s e = omega (arith, by_range 16 (sheet_back s) (sheet_columns s) 16 17 s (λ z. omega arith) (λ z. omega arith) (of_body c c s other_6 e))

-- ---- both
pub book_first : (b s : List ℕ) → files_refusal b s ≡ 6 → book_refusal b ≡ 6
unfolding files_refusal
book_first b s e = by (eqb (book_refusal b) 0) e
  where
    by : (t : Bool) → cond t (sheet_refusal (columns b) s) (book_refusal b) ≡ 6 → book_refusal b ≡ 6
    by true e = absurd (not_by_6 (columns b) s e)
    by false e = e

pub sheet_first : (b s : List ℕ) {n : ℕ} → 6 < n → files_refusal b s ≡ n → (book_refusal b ≡ 0) × (sheet_refusal (columns b) s ≡ n)
unfolding files_refusal
sheet_first b s {n} h e = by (eqb (book_refusal b) 0) refl e
  where
    by : (t : Bool) → eqb (book_refusal b) 0 ≡ t → cond t (sheet_refusal (columns b) s) (book_refusal b) ≡ n → (book_refusal b ≡ 0) × (sheet_refusal (columns b) s ≡ n)
    by true t e = (eqb-true (book_refusal b) 0 t, e)
    by false t e = absurd (book_few b h e)
