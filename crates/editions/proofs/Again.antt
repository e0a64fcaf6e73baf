-- An accepted sheet written again, in its own edition and behind its own front text, is the same bytes.
use mathlib.Core.Path.{◌≡◌, refl, sym, ap, ap₂, ◌∙◌}
use mathlib.Core.Bool.{Bool, true, false, ◌&&◌, ◌||◌, not, cond}
use mathlib.Core.List.{List, [], ◌∷◌, ◌++◌, append_assoc, append-nil}
use Prim.Native.Nat.{ℕ, zero, suc, ◌+◌, ◌*◌, ◌-◌, ◌≤◌, ◌<◌}
use native.Mathlib.Nat.{add-zero}
use native.Mathlib.Omega.{arith}
use borrow.Author.Tests.{eqb-true, ne_eqb, lt-ltb, le-ltb, ltb-true, ltb-false}
use lib.Dec.{eqb, ltb}
use lib.ListN.{length, take, drop, get_or, length-append, length-take, length-drop, take-append-drop, drop_of_length-le}
use lib.Seq.{drop-drop, take_at, take-add, length-take-le}
use lib.IntN.{pos, negsuc}
use Rattle.frank_wolfe.specs.Vectors.{ones}
use Rattle.files.specs.Bytes.{same, all_bytes, number_bytes, little_endian, number, value, values, between, all_in_range, trailer, body, length_in_range}
use Rattle.files.specs.Sheet.{sheet, sheet_columns, WSH1, WSH2, sheet_lettered, factor_bytes, sheet_back, SheetWhole, target_offset, sheet_refusal_in}
use Rattle.files.specs.Limits.{file_limit, step_limit}
use Rattle.files.proofs.Accepted.{passed, SheetPasses, sheet_passed}
use Rattle.files.proofs.Access.{target_at}
use Rattle.files.proofs.Bytes.{drop_bytes, field}
use Rattle.files.proofs.Editions.{body_tests}
use Rattle.files.proofs.Letters.{same_eq}
use Rattle.files.proofs.Numbers.{number_2}
use Rattle.files.proofs.Refusal.{and_true}
use Rattle.files.proofs.Rows.{length_values}
use Rattle.factors.proofs.Factors.{factors_at}
use Rattle.sheet_output.specs.Output.{bits, values_bytes, sheet_trailer, sheet_bytes, factored_body, factored_bytes, edition_bytes}
use Rattle.sheet_output.proofs.Values.{length_values_bytes}
use Rattle.editions.specs.Rewriting.{sheet_front}

-- ---- values
bits_of_value : (v : ℕ) → v < 65536 → bits (value v) ≡ v
unfolding bits value
bits_of_value v h = by (ltb v 32768) refl
  where
    by : (t : Bool) → ltb v 32768 ≡ t → bits (cond t (pos v) (negsuc (65535 - v))) ≡ v
    by true e = refl
    by false e = omega arith

byte_below : (xs : List ℕ) (i : ℕ) → all_bytes xs ≡ true → get_or xs i 0 < 256
unfolding all_bytes
byte_below [] i h = omega arith
byte_below (x ∷ xs) zero h = ltb-true x 256 (and_true (ltb x 256) (all_bytes xs) h).0
byte_below (x ∷ xs) (suc i) h = byte_below xs i (and_true (ltb x 256) (all_bytes xs) h).1

-- the first n values, written again before what follows them
values_again : (n : ℕ) (bs : List ℕ) → all_bytes bs ≡ true → 2 * n ≤ length bs → values_bytes (values n bs) ++ drop (2 * n) bs ≡ bs
unfolding values_bytes values
values_again zero bs h k = refl
values_again (suc n) bs h k =
    let below : number 0 2 bs < 65536 = omega (arith, number_2 0 bs, byte_below bs 0 h, byte_below bs (0 + 1) h) in
    let e : 2 * suc n ≡ 2 + 2 * n = omega arith in
    let more = values_again n (drop 2 bs) (drop_bytes 2 bs h) (rw length-drop (omega arith)) in
    rw (bits_of_value (number 0 2 bs) below, append_assoc, e, ← drop-drop (2 * n) 2 bs, more) (field 0 2 bs h (omega arith))

-- a body of 2 bytes a column at `off`, then k bytes of factors and 16 of the trailer, in a file of n bytes: where the parts start and end
record Parts (n off c k : ℕ) : Type 0 where
  factors_at : n - 16 - k ≡ off + 2 * c
  factors_long : n - 16 - (n - 16 - k) ≡ k
  trailer_at : off + 2 * c + k ≡ n - 16

parts : (n off c k : ℕ) → n ≡ off + (2 * c + k) + 16 → Parts n off c k
parts n off c k e = record { factors_at = omega arith; factors_long = omega arith; trailer_at = omega arith }

-- ---- an accepted sheet
refused_none : (n x : ℕ) → cond (not (eqb n 0)) n x ≡ 0 → n ≡ 0
refused_none zero x e = refl
refused_none (suc n) x e = absurd (omega (arith, simp (ne_eqb (suc n) 0 (λ z. omega arith)) at e))

module _ (a z : ℕ) (s : List ℕ) (e : sheet_refusal_in a z s ≡ 0) where
  pub fits : SheetPasses a z s
  fits = sheet_passed a z s e

  -- after length and letters
  rest_passed : (sheet_lettered WSH1 s || sheet_lettered WSH2 s ≡ true) × (number 0 4 (trailer 16 s) ≡ sheet_back s)
  unfolding sheet_refusal_in
  rest_passed =
      let p1 = passed (length_in_range 16 s) 10 _ e in
      let p2 = passed (sheet_lettered WSH1 s || sheet_lettered WSH2 s) 11 _ p1.1 in
      let p3 = passed (between a z (sheet_columns s)) 12 _ p2.1 in
      let p4 = passed (between 1 step_limit (sheet s).steps) 13 _ p3.1 in
      let p5 = rw (le-ltb 1024000000 (sheet s).tolerance fits.fits.most_tolerance) at p4.1 in
      let own = number 0 4 (trailer 16 s) in
      let p6 = passed (eqb own (sheet_back s)) 15 _ (sym (body_tests s fits.fits.whole) ∙ refused_none _ _ p5) in
      (p2.0, eqb-true own (sheet_back s) p6.0)

  pub back_is : number 0 4 (trailer 16 s) ≡ sheet_back s
  back_is = rest_passed.1

  pub first_by : (t : Bool) → sheet_lettered WSH2 s ≡ t → sheet_lettered WSH1 s ≡ not t
  unfolding sheet_lettered same
  first_by true h = rw (same_eq (drop 12 (trailer 16 s)) WSH2 h)
  first_by false h = by (sheet_lettered WSH1 s) refl
    where
      by : (u : Bool) → sheet_lettered WSH1 s ≡ u → u ≡ true
      by true q = refl
      by false q = rw (q, h) at rest_passed.0

  length_is : length s ≡ target_offset s + sheet_back s + 16
  length_is = omega (arith, fits.fits.whole)

  -- the trailer, by its fields
  module _ (h : all_bytes s ≡ true) where
    trailer_bytes : all_bytes (trailer 16 s) ≡ true
    unfolding trailer
    trailer_bytes = drop_bytes (length s - 16) s h

    trailer_length : length (trailer 16 s) ≡ 16
    unfolding trailer
    trailer_length = rw length-drop (omega (arith, length_is))

    foot_again : (ls : List ℕ) → sheet_lettered ls s ≡ true → (back c : ℕ) → back ≡ sheet_back s → c ≡ sheet_columns s →
        sheet_trailer ls back c (sheet s).steps (sheet s).tolerance ≡ trailer 16 s
    unfolding sheet_trailer sheet sheet_columns sheet_lettered
    foot_again ls l back c eb ec =
        let t = trailer 16 s in
        let k = trailer_length in
        let b = trailer_bytes in
        let d : drop 12 t ≡ ls = same_eq (drop 12 t) ls l in
        let q : back ≡ number 0 4 t = eb ∙ sym back_is in
        rw (q, ec, ← d, field 8 4 t b (omega arith), field 6 2 t b (omega arith), field 4 2 t b (omega arith), field 0 4 t b (omega arith))

    target_long : length (values_bytes (sheet s).target) ≡ 2 * sheet_columns s
    target_long = length_values_bytes (sheet s).target ∙ ap (λ n. 2 * n) fits.fits.target_length

    -- where the target ends
    abbrev end : ℕ
    end = target_offset s + 2 * sheet_columns s

    target_again : values_bytes (sheet s).target ++ drop end s ≡ drop (target_offset s) s
    target_again =
        rw (← drop-drop (2 * sheet_columns s) (target_offset s) s, target_at)
        (values_again (sheet_columns s) (drop (target_offset s) s) (drop_bytes (target_offset s) s h) (rw length-drop (omega (arith, length_is))))

    -- the front text and the target, as they stand in the sheet
    pub front_and_target : take end s ≡ sheet_front s ++ values_bytes (sheet s).target
    unfolding sheet_front
    front_and_target =
        take-add (target_offset s) (2 * sheet_columns s) s
        ∙ ap (λ l. take (target_offset s) s ++ l)
        (ap (take (2 * sheet_columns s)) (sym target_again) ∙ take_at (values_bytes (sheet s).target) (drop end s) (2 * sheet_columns s) target_long)

    factors_long : (t : Bool) → sheet_lettered WSH2 s ≡ t → factor_bytes s ≡ cond t (sheet_columns s) 0
    unfolding factor_bytes
    factors_long t l = rw l

    parts_of : (k : ℕ) → factor_bytes s ≡ k → Parts (length s) (target_offset s) (sheet_columns s) k
    parts_of k b = parts (length s) (target_offset s) (sheet_columns s) k (length_is ∙ ap (λ x. target_offset s + (2 * sheet_columns s + x) + 16) b)

    back_long : (k n m : ℕ) → factor_bytes s ≡ k → n ≡ 2 * sheet_columns s → m ≡ k → n + m ≡ sheet_back s
    back_long k n m b e f = ap₂ ◌+◌ e (f ∙ sym b)

    body_again : (t : Bool) → sheet_lettered WSH2 s ≡ t → edition_bytes t (sheet s) ≡ drop (target_offset s) s
    unfolding edition_bytes factored_bytes factored_body sheet_bytes trailer
    body_again true l =
        let c = sheet_columns s in
        let b = factors_long true l in
        let at = parts_of c b in
        let f : (sheet s).factors ≡ take c (drop end s) = sym (rw (at.factors_long, at.factors_at) at (factors_at s fits.fits.whole l c (length s - 16) (length s - 16 - c) refl refl refl)) in
        let k : length (values_bytes (sheet s).target ++ (sheet s).factors) ≡ sheet_back s = length-append (values_bytes (sheet s).target) (sheet s).factors ∙ back_long c _ _ b target_long fits.fits.factor_count in
        let foot : trailer 16 s ≡ drop c (drop end s) = ap (λ n. drop n s) (sym at.trailer_at) ∙ sym (drop-drop c end s) in
        ap (λ x. (values_bytes (sheet s).target ++ (sheet s).factors) ++ x) (foot_again WSH2 l _ _ k fits.fits.target_length)
        ∙ append_assoc (values_bytes (sheet s).target) (sheet s).factors (trailer 16 s)
        ∙ ap (λ x. values_bytes (sheet s).target ++ x) (ap₂ ◌++◌ f foot ∙ take-append-drop c (drop end s))
        ∙ target_again
    body_again false l =
        let b = factors_long false l in
        ap (λ x. values_bytes (sheet s).target ++ x) (foot_again WSH1 (first_by false l) _ _ (target_long ∙ sym (add-zero (2 * sheet_columns s)) ∙ back_long 0 _ 0 b refl refl) fits.fits.target_length)
        ∙ ap (λ n. values_bytes (sheet s).target ++ drop n s) (sym (parts_of 0 b).trailer_at ∙ add-zero end)
        ∙ target_again

    pub written_again : sheet_front s ++ edition_bytes (sheet_lettered WSH2 s) (sheet s) ≡ s
    unfolding sheet_front
    written_again = rw (body_again (sheet_lettered WSH2 s) refl) (take-append-drop (target_offset s) s)
