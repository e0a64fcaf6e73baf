-- What refuses a file, test by test. Each law has as premises the facts that `file_parts` or `validation` has at one of its returns.
use mathlib.Core.Path.{◌≡◌, refl, sym, ◌∙◌}
use mathlib.Core.Bool.{Bool, true, false, ◌&&◌, ◌||◌, not, cond}
use mathlib.Core.List.{List}
use Prim.Native.Nat.{ℕ, ◌*◌, ◌-◌, ◌≤◌, ◌<◌}
use native.Mathlib.Nat.{mul-le-mul}
use native.Mathlib.Omega.{arith}
use borrow.Author.Tests.{le-leb, lt-leb, leb-true, eq-eqb, ne_eqb, lt-ltb, le-ltb, not-true, not-false}
use lib.Dec.{leb, eqb}
use lib.ListN.{length, drop}
use Rattle.frank_wolfe.specs.Vectors.{sum}
use Rattle.files.specs.Bytes.{number, values, same, between, all_in_range, length_in_range, trailer, body, reaches, body_refusal}
use Rattle.files.specs.Book.{boats, columns, WBK1, book_refusal}
use Rattle.files.specs.Sheet.{sheet, sheet_columns, WSH1, WSH2, sheet_lettered, sheet_back, sheet_refusal_in, sheet_refusal, files_refusal}
use Rattle.files.proofs.Numbers.{number_in_trailer, drop_trailer}
use Rattle.files.proofs.Rows.{values_take_some}
use Rattle.files.specs.Limits.{file_limit, step_limit}

-- ---- numbers between two bounds
pub and_true : (a b : Bool) → a && b ≡ true → (a ≡ true) × (b ≡ true)
and_true true b e = (refl, e)
and_true false b e = let z : ◌≡◌ {A = ℕ} 0 1 = cc in absurd (omega arith)

pub between_true : (least most n : ℕ) → between least most n ≡ true → (least ≤ n) × (n ≤ most)
unfolding between
between_true least most n e =
    let p = and_true (leb least n) (leb n most) e in
    (leb-true least n p.0, leb-true n most p.1)

pub between_said : {least most n : ℕ} → least ≤ n → n ≤ most → between least most n ≡ true
unfolding between
between_said {least} {most} {n} h k = simp (le-leb least n h, le-leb n most k)

module _ (least most n : ℕ) (g : Bool) (e : g ≡ between least most n) (t : not g ≡ false) where
  pub at_least : least ≤ n
  at_least = (between_true least most n (sym e ∙ not-false g t)).0

  pub at_most : n ≤ most
  at_most = (between_true least most n (sym e ∙ not-false g t)).1

-- ---- the body
module _ (size back count place range : ℕ) (bs : List ℕ) (h : size ≤ length bs) (few : 2 * count ≤ back) (own : ℕ) (eo : own ≡ number (length bs - size) 4 bs) where
  back_at : number 0 4 (trailer size bs) ≡ number (length bs - size) 4 bs
  back_at = number_in_trailer size 0 4 (length bs - size) bs (omega arith)

  pub back_wrong : (own ≡ back → ⊥) → place ≡ body_refusal size back count place range bs
  unfolding body_refusal
  back_wrong n = simp (back_at, ← eo, ne_eqb _ _ n)

  module _ (q : own ≡ back) where
    pub back_before : length bs - size < own → place ≡ body_refusal size back count place range bs
    unfolding body_refusal reaches
    back_before k = simp (back_at, ← eo, eq-eqb _ _ q, lt-leb _ _ k)

    module _ (k : own ≤ length bs - size) (g : Bool) (eg : g ≡ all_in_range (values count (drop (length bs - size - own) bs))) where
      in_body : all_in_range (values count (body size back bs)) ≡ g
      unfolding body
      in_body = rw (values_take_some count back _ few) (sym (eg ∙ rw q))

      pub all_in : g ≡ true → 0 ≡ body_refusal size back count place range bs
      unfolding body_refusal reaches
      all_in t = simp (back_at, ← eo, eq-eqb _ _ q, le-leb _ _ k, in_body, t)

      pub some_out : g ≡ false → range ≡ body_refusal size back count place range bs
      unfolding body_refusal reaches
      some_out t = simp (back_at, ← eo, eq-eqb _ _ q, le-leb _ _ k, in_body, t)

-- ---- a fleet book
module _ (b : List ℕ) (g1 : Bool) (e1 : g1 ≡ between 12 file_limit (length b)) where
  pub book_length_out : not g1 ≡ true → 1 ≡ book_refusal b
  unfolding book_refusal length_in_range
  book_length_out t = simp (← e1, not-true g1 t)

  module _ (t1 : not g1 ≡ false) (g2 : Bool) (e2 : g2 ≡ same (drop (length b - 4) b) WBK1) where
    letters_at : drop 8 (trailer 12 b) ≡ drop (length b - 4) b
    letters_at = drop_trailer 12 8 (length b - 4) b (omega (arith, at_least 12 file_limit (length b) g1 e1 t1))

    pub book_letters_differ : not g2 ≡ true → 2 ≡ book_refusal b
    unfolding book_refusal length_in_range
    book_letters_differ t = simp (← e1, not-false g1 t1, letters_at, ← e2, not-true g2 t)

    module _ (t2 : not g2 ≡ false) (n : ℕ) (en : n ≡ boats b) (g3 : Bool) (e3 : g3 ≡ between 1 256 n) where
      pub boats_out : not g3 ≡ true → 3 ≡ book_refusal b
      unfolding book_refusal length_in_range
      boats_out t = simp (← e1, not-false g1 t1, letters_at, ← e2, not-false g2 t2, ← en, ← e3, not-true g3 t)

      module _ (t3 : not g3 ≡ false) (c : ℕ) (ec : c ≡ columns b) (g4 : Bool) (e4 : g4 ≡ between 1 64 c) where
        pub columns_out : not g4 ≡ true → 4 ≡ book_refusal b
        unfolding book_refusal length_in_range
        columns_out t = simp (← e1, not-false g1 t1, letters_at, ← e2, not-false g2 t2, ← en, ← e3, not-false g3 t3, ← ec, ← e4, not-true g4 t)

        pub book_body : not g4 ≡ false → (r : ℕ) → r ≡ body_refusal 12 (2 * (n * c)) (n * c) 5 6 b → r ≡ book_refusal b
        unfolding book_refusal length_in_range
        book_body t r er = er ∙ simp (← e1, not-false g1 t1, letters_at, ← e2, not-false g2 t2, ← en, ← e3, not-false g3 t3, ← ec, ← e4, not-false g4 t)

-- the values of a book are few enough that their count fits
pub few_values : (n c : ℕ) (g h : Bool) → g ≡ between 1 256 n → not g ≡ false → h ≡ between 1 64 c → not h ≡ false → n * c ≤ 16384
few_values n c g h eg tg eh th = mul-le-mul (at_most 1 256 n g eg tg) (at_most 1 64 c h eh th)

-- ---- a sheet
module _ (a z : ℕ) (s : List ℕ) (g1 : Bool) (e1 : g1 ≡ between 16 file_limit (length s)) where
  pub sheet_length_out : not g1 ≡ true → 11 ≡ sheet_refusal_in a z s
  unfolding sheet_refusal_in length_in_range
  sheet_length_out t = simp (← e1, not-true g1 t)

  module _ (t1 : not g1 ≡ false) (g2 : Bool) (e2 : g2 ≡ sheet_lettered WSH1 s || sheet_lettered WSH2 s) where
    pub sheet_letters_differ : not g2 ≡ true → 12 ≡ sheet_refusal_in a z s
    unfolding sheet_refusal_in length_in_range
    sheet_letters_differ t = simp (← e1, not-false g1 t1, ← e2, not-true g2 t)

    module _ (t2 : not g2 ≡ false) (m : ℕ) (em : m ≡ sheet_columns s) (g3 : Bool) (e3 : g3 ≡ between a z m) where
      columns_tested : between a z (sheet_columns s) ≡ g3
      columns_tested = sym (e3 ∙ rw em)

      pub columns_differ : not g3 ≡ true → 13 ≡ sheet_refusal_in a z s
      unfolding sheet_refusal_in length_in_range
      columns_differ t = simp (← e1, not-false g1 t1, ← e2, not-false g2 t2, columns_tested, not-true g3 t)

      module _ (t3 : not g3 ≡ false) (k : ℕ) (ek : k ≡ (sheet s).steps) (g4 : Bool) (e4 : g4 ≡ between 1 step_limit k) where
        pub steps_out : not g4 ≡ true → 14 ≡ sheet_refusal_in a z s
        unfolding sheet_refusal_in length_in_range
        steps_out t = simp (← e1, not-false g1 t1, ← e2, not-false g2 t2, columns_tested, not-false g3 t3, ← ek, ← e4, not-true g4 t)

        module _ (t4 : not g4 ≡ false) (x : ℕ) (ex : x ≡ (sheet s).tolerance) where
          pub tolerance_out : 1024000000 < x → 15 ≡ sheet_refusal_in a z s
          unfolding sheet_refusal_in length_in_range
          tolerance_out t = simp (← e1, not-false g1 t1, ← e2, not-false g2 t2, columns_tested, not-false g3 t3, ← ek, ← e4, not-false g4 t4, ← ex, lt-ltb _ _ t)

          module _ (t5 : x ≤ 1024000000) (back : ℕ) (eb : back ≡ sheet_back s) (r : ℕ) (er : r ≡ body_refusal 16 back m 16 17 s) where
            body_tested : body_refusal 16 (sheet_back s) (sheet_columns s) 16 17 s ≡ r
            body_tested = sym (er ∙ rw (eb, em))

            -- where the tests before the body are passed
            from_body : sheet_refusal_in a z s ≡ cond (not (eqb r 0)) r (cond (between 1 64 (sum (sheet s).factors)) 0 46)
            unfolding sheet_refusal_in length_in_range
            from_body =
                simp (← e1, not-false g1 t1, ← e2, not-false g2 t2, columns_tested, not-false g3 t3, ← ek, ← e4, not-false g4 t4, ← ex, le-ltb _ _ t5, body_tested)

            pub body_refused : (r ≡ 0 → ⊥) → r ≡ sheet_refusal_in a z s
            body_refused n = sym (from_body ∙ simp (ne_eqb _ _ n))

            module _ (n : r ≡ 0) (f : ℕ) (ef : f ≡ sum (sheet s).factors) (g6 : Bool) (e6 : g6 ≡ between 1 64 f) where
              pub factors_out : not g6 ≡ true → 46 ≡ sheet_refusal_in a z s
              factors_out t = sym (from_body ∙ simp (eq-eqb _ _ n, ← ef, ← e6, not-true g6 t))

              pub factors_in : not g6 ≡ false → 0 ≡ sheet_refusal_in a z s
              factors_in t = sym (from_body ∙ simp (eq-eqb _ _ n, ← ef, ← e6, not-false g6 t))

-- ---- both
module _ (b s : List ℕ) (r : ℕ) (er : r ≡ book_refusal b) where
  pub book_refused : (r ≡ 0 → ⊥) → r ≡ files_refusal b s
  unfolding files_refusal
  book_refused n = simp (← er, ne_eqb _ _ n)

  pub book_passed : r ≡ 0 → (c x : ℕ) → c ≡ columns b → x ≡ sheet_refusal c s → x ≡ files_refusal b s
  unfolding files_refusal
  book_passed z c x ec ex = ex ∙ simp (← er, eq-eqb _ _ z, ← ec)
