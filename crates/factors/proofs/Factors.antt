-- The factors of a sheet: where they stand, their total counted one by one, and that all are 1.
use mathlib.Core.Path.{◌≡◌, refl, sym, ap₂, ◌∙◌}
use mathlib.Core.Bool.{Bool, true, false, ◌&&◌}
use mathlib.Core.List.{List, [], ◌∷◌}
use Prim.Native.Nat.{ℕ, zero, suc, ◌+◌, ◌*◌, ◌-◌, ◌≤◌, ◌<◌}
use native.Mathlib.Numerals.{add-one}
use native.Mathlib.Omega.{arith}
use borrow.Author.Tests.{eq-eqb, ne_eqb, eqb-true}
use lib.Dec.{eqb}
use lib.ListN.{length, take, drop, get_or, drop_of_length-le}
use lib.Seq.{drop-cons, drop-drop}
use Rattle.frank_wolfe.specs.Vectors.{ones, sum}
use Rattle.frank_wolfe.proofs.Vectors.{sum_ones}
use Rattle.files.specs.Bytes.{same, body}
use Rattle.files.specs.Sheet.{sheet, sheet_columns, WSH2, sheet_lettered, factor_bytes, SheetWhole}
use Rattle.files.proofs.Accepted.{factors_long}
use Rattle.files.proofs.Fields.{sheet_letters_at}
use Rattle.files.proofs.Refusal.{and_true}
use Rattle.files.proofs.Rows.{drop_take}
use Rattle.factors.specs.Factors.{all_ones}

-- ---- The total, counted one by one
pub record Counted (fs : List ℕ) (n i : ℕ) : Type 0 where
  pub within : i ≤ length fs
  pub few : n ≤ 255 * i
  pub left : n + sum (drop i fs) ≡ sum fs

pub counted_start : {fs : List ℕ} → Counted fs 0 0
counted_start = record { within = omega arith; few = omega arith; left = omega arith }

module _ {fs : List ℕ} {n i : ℕ} (s : Counted fs n i) where
  pub counted_more : i < length fs → get_or fs i 0 < 256 → Counted fs (n + get_or fs i 0) (i + 1)
  unfolding sum
  counted_more h b =
      let e : n + (get_or fs i 0 + sum (drop (suc i) fs)) ≡ sum fs = rw (drop-cons fs i 0 h) at s.left in
      record { within = omega arith; few = omega (arith, s.few); left = rw add-one (omega (arith, e)) }

  pub counted_end : length fs ≤ i → n ≡ sum fs
  unfolding sum
  counted_end h = let e = rw (drop_of_length-le fs {i = i} h) at s.left in omega (arith, e)

-- ---- All are 1, seen one by one
pub record Ones (fs : List ℕ) (i : ℕ) : Type 0 where
  pub within : i ≤ length fs
  pub decides : all_ones fs ≡ all_ones (drop i fs)

pub ones_start : {fs : List ℕ} → Ones fs 0
ones_start = record { within = omega arith; decides = refl }

module _ {fs : List ℕ} {i : ℕ} (s : Ones fs i) where
  next : i < length fs → all_ones fs ≡ eqb (get_or fs i 0) 1 && all_ones (drop (i + 1) fs)
  unfolding all_ones
  next h = s.decides ∙ rw (add-one, drop-cons fs i 0 h)

  pub ones_more : i < length fs → get_or fs i 0 ≡ 1 → Ones fs (i + 1)
  ones_more h e = record { within = omega arith; decides = next h ∙ simp (eq-eqb _ _ e) }

  pub ones_differ : i < length fs → (get_or fs i 0 ≡ 1 → ⊥) → false ≡ all_ones fs
  ones_differ h e = sym (next h ∙ simp (ne_eqb _ _ e))

  pub ones_end : length fs ≤ i → true ≡ all_ones fs
  unfolding all_ones
  ones_end h = sym (s.decides ∙ rw (drop_of_length-le fs {i = i} h))

pub all_ones_are : (fs : List ℕ) → all_ones fs ≡ true → fs ≡ ones (length fs)
unfolding all_ones
all_ones_are [] e = refl
all_ones_are (f ∷ fs) e =
    let p = and_true (eqb f 1) (all_ones fs) e in
    ap₂ ◌∷◌ (eqb-true f 1 p.0) (all_ones_are fs p.1)

ones_all : (n : ℕ) → all_ones (ones n) ≡ true
unfolding all_ones
ones_all zero = refl
ones_all (suc n) = ones_all n

-- ---- Where they stand
module _ (s : List ℕ) (w : SheetWhole s) where
  -- the last bytes before the trailer
  pub factors_at : sheet_lettered WSH2 s ≡ true → (c end from : ℕ) → c ≡ sheet_columns s → end ≡ length s - 16 → from ≡ end - c →
      take (end - from) (drop from s) ≡ (sheet s).factors
  unfolding sheet body factor_bytes
  factors_at e c end from ec ee ef =
      let n = sheet_columns s in
      let b : factor_bytes s ≡ n = rw e in
      let w' : 2 * n + n + 16 ≤ length s = rw b at w in
      let p : length s - 16 - (2 * n + n) + 2 * n ≡ from = omega arith in
      let q : end - from ≡ n = omega arith in
      rw (e, drop_take (2 * n) n, drop-drop, p, q)

  pub few_factors : {c : ℕ} → c ≡ sheet_columns s → c < 65536 → {fs : List ℕ} → fs ≡ (sheet s).factors → length fs ≤ 65535
  few_factors ec h ef = rw ef (omega (arith, factors_long s w))

  module _ (g : Bool) (eg : g ≡ same (drop (length s - 4) s) WSH2) where
    pub lettered_2 : g ≡ true → sheet_lettered WSH2 s ≡ true
    lettered_2 t = sheet_letters_at s (omega arith) WSH2 ∙ sym eg ∙ t

    plain_factors : g ≡ false → (sheet s).factors ≡ ones (sheet_columns s)
    unfolding sheet
    plain_factors t = simp (sheet_letters_at s (omega arith) WSH2, ← eg, t)

    pub plain_total : g ≡ false → {c : ℕ} → c ≡ sheet_columns s → c ≡ sum (sheet s).factors
    plain_total t e = e ∙ sym (rw (plain_factors t) (sum_ones (sheet_columns s)))

    pub plain_ones : g ≡ false → true ≡ all_ones (sheet s).factors
    plain_ones t = sym (rw (plain_factors t) (ones_all (sheet_columns s)))

  -- a factor other than 1 stands in the edition WSH2 alone
  pub second_edition : all_ones (sheet s).factors ≡ false → sheet_lettered WSH2 s ≡ true
  second_edition e = by (sheet_lettered WSH2 s) refl
    where
      by : (t : Bool) → sheet_lettered WSH2 s ≡ t → t ≡ true
      by true l = refl
      by false l = sym e ∙ sym (plain_ones false (sym (sym (sheet_letters_at s (omega arith) WSH2) ∙ l)) refl)
