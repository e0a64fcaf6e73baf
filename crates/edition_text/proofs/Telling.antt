-- The lines put together, and the scan for the first factor other than 1.
use mathlib.Core.Path.{◌≡◌, refl, ap, ◌∙◌}
use mathlib.Core.Bool.{Bool, true, false, ◌&&◌, ◌||◌, not, cond}
use mathlib.Core.List.{List, [], ◌∷◌}
use Prim.Native.Nat.{ℕ, zero, suc, ◌+◌, ◌≤◌, ◌<◌}
use native.Mathlib.Omega.{arith}
use native.Mathlib.Numerals.{add-one}
use borrow.Author.Tests.{eq-eqb, ne_eqb}
use lib.Dec.{eqb, ltb, eqb-suc-zero}
use lib.ListN.{length, drop, get_or, drop_of_length-le}
use lib.Seq.{drop-cons}
use Rattle.frank_wolfe.specs.Vectors.{sum}
use Rattle.files.specs.Sheet.{sheet_columns, sheet_back, sheet, WSH1, WSH2, sheet_lettered, sheet_refusal_in}
use Rattle.files.specs.Bytes.{number as read_number, values, all_in_range, between, length_in_range, trailer, body, reaches, body_refusal}
use Rattle.files.specs.Limits.{file_limit, step_limit}
use Rattle.files.proofs.Accepted.{sheet_passed}
use Rattle.files.proofs.Refusal.{between_true}
use Rattle.factors.specs.Factors.{all_ones}
use Rattle.text.specs.Decimal.{decimal}
use Rattle.text.specs.Lines.{number_line, pair_line}
use Rattle.text.specs.Texts.{Holds, Adds}
use Rattle.text.specs.declared.Text.{Text}
use Rattle.text.proofs.Texts.{adds_both, adds_to_empty}
use Rattle.editions.specs.Rewritten.{Rewritten, Refused, Wrote}
use Rattle.editions.specs.Rewriting.{other_edition, edition_refusal}
use Rattle.other_edition.specs.Ending.{Convertible}
use Rattle.refusals.specs.declared.Refusal.{Refusal}
use Rattle.refusals.specs.declared.Refusal.TheVariants.{BookLength, BookLetters, BookBoats, BookColumns, BookBack, BookValue, SheetLength, SheetLetters, SheetColumns, SheetSteps, SheetTolerance, SheetBack, SheetValue, ShareSlots, CardRoom, CardLength, CardLetters, CardCounts, CardVerdict, CardBack, CardBoats, CardShares, CardDistance, CardTolerance, CellUnweighed, CellReading, CellUnit, QueueSheets, QueueAllowance, SheetFactors, EditionFactors, EditionRoom, TableLength, TableShare, TableTotal, ReleasedBoats, VerdictNotSpent, MovesAllowed, MergedColumns, MergedBoats, MergedRoom, ReportCards}
use Rattle.refusals.specs.Numbers.{number}
use Rattle.edition_text.specs.Lines.{EDITION, REFUSED, SHEET_HAS, COLUMNS_RANGE, SHEET_COLUMN, FACTOR_IS, NOT_ONE, OTHER_HAS, BYTES_LIMIT, edition_line, first_other, columns_line, factor_line, size_line, edition_detail}

-- ---- the line of a conversion
pub refused_told : {t u : Text} {r : Rewritten} (n : ℕ) → r ≡ Refused n → Holds [] t → Adds t (number_line REFUSED n) u → Holds (edition_line r) u
unfolding edition_line
refused_told n e h p = rw e (adds_to_empty h p)

pub wrote_told : {t u : Text} {r : Rewritten} (edition size : ℕ) → r ≡ Wrote edition size → Holds [] t → Adds t (pair_line EDITION edition size) u → Holds (edition_line r) u
unfolding edition_line
wrote_told edition size e h p = rw e (adds_to_empty h p)

-- ---- the first factor other than 1
pub record PassedOnes (fs : List ℕ) (i : ℕ) : Type 0 where
  pub within : i ≤ length fs
  pub decides : first_other fs ≡ i + first_other (drop i fs)

pub ones_start : {fs : List ℕ} → PassedOnes fs 0
ones_start = record { within = omega arith; decides = omega arith }

module _ {fs : List ℕ} {i : ℕ} (s : PassedOnes fs i) where
  next : i < length fs → first_other (drop i fs) ≡ cond (eqb (get_or fs i 0) 1) (suc (first_other (drop (i + 1) fs))) 0
  unfolding first_other
  next h = rw (add-one, drop-cons fs i 0 h)

  pub ones_more : i < length fs → get_or fs i 0 ≡ 1 → PassedOnes fs (i + 1)
  ones_more h e =
      let n : first_other (drop i fs) ≡ suc (first_other (drop (i + 1) fs)) = next h ∙ simp (eq-eqb _ _ e) in
      record { within = omega arith; decides = omega (arith, s.decides) }

  pub ones_differ : i < length fs → (get_or fs i 0 ≡ 1 → ⊥) → i ≡ first_other fs
  ones_differ h e = let n : first_other (drop i fs) ≡ 0 = next h ∙ simp (ne_eqb _ _ e) in omega (arith, s.decides)

  pub ones_end : length fs ≤ i → i ≡ first_other fs
  unfolding first_other
  ones_end h = let n : first_other (drop i fs) ≡ 0 = ap first_other (drop_of_length-le fs {i = i} h) in omega (arith, s.decides)

inside_by : (g : Bool) (a n : ℕ) (h : Bool) → (h ≡ false → a < n) → g && h ≡ false → cond g (suc a) 0 < suc n
inside_by true a n h f e = omega (arith, f e)
inside_by false a n h f e = omega arith

pub other_inside : (fs : List ℕ) → all_ones fs ≡ false → first_other fs < length fs
unfolding all_ones first_other
other_inside [] e = absurd (let z : ◌≡◌ {A = ℕ} 0 1 = cc in omega arith)
other_inside (f ∷ fs) e = inside_by (eqb f 1) (first_other fs) (length fs) (all_ones fs) (λ h. other_inside fs h) e

-- ---- the lines of a refusal
module _ (s : List ℕ) where
  pub columns_told : {t₀ t₁ t₂ t₃ t₄ : Text} {m : ℕ} → Holds [] t₀ → Adds t₀ SHEET_HAS t₁ → m ≡ sheet_columns s → Adds t₁ (decimal m) t₂ → Adds t₂ COLUMNS_RANGE t₃ → Adds t₃ (10 ∷ []) t₄ → Holds (columns_line s) t₄
  unfolding columns_line
  columns_told e p em q x y = rw (← em) (adds_to_empty e (adds_both p (adds_both q (adds_both x y))))

  pub size_told : {t₀ t₁ t₂ t₃ t₄ : Text} {m : ℕ} → Holds [] t₀ → Adds t₀ OTHER_HAS t₁ → m ≡ length (other_edition s) → Adds t₁ (decimal m) t₂ → Adds t₂ BYTES_LIMIT t₃ → Adds t₃ (10 ∷ []) t₄ → Holds (size_line s) t₄
  unfolding size_line
  size_told e p em q x y = rw (← em) (adds_to_empty e (adds_both p (adds_both q (adds_both x y))))

  module _ {fs : List ℕ} (ef : fs ≡ (sheet s).factors) {k : ℕ} (ek : k ≡ first_other fs) where
    pub factor_inside : all_ones (sheet s).factors ≡ false → k < length fs
    factor_inside e = rw ek (other_inside fs (rw ef e))

    pub factor_few : sheet_refusal_in 1 64 s ≡ 0 → all_ones (sheet s).factors ≡ false → k < 64
    factor_few ok e = let p = sheet_passed 1 64 s ok in omega (arith, factor_inside e, ap length ef, p.fits.factor_count, p.most_columns)

    pub factor_told : {t₀ t₁ t₂ t₃ t₄ t₅ t₆ : Text} → Holds [] t₀ → Adds t₀ SHEET_COLUMN t₁ → Adds t₁ (decimal (k + 1)) t₂ → Adds t₂ FACTOR_IS t₃ → Adds t₃ (decimal (get_or fs k 0)) t₄ → Adds t₄ NOT_ONE t₅ →
        Adds t₅ (10 ∷ []) t₆ → Holds (factor_line s) t₆
    unfolding factor_line
    factor_told e p q x y z w = rw (← ef, ← ek) (adds_to_empty e (adds_both p (adds_both q (adds_both x (adds_both y (adds_both z w))))))

-- a sheet that is refused by 13 has a trailer
not_by_11 : (g : Bool) (x : ℕ) → cond (not g) 11 x ≡ 13 → g ≡ true
not_by_11 true x e = refl
not_by_11 false x e = absurd (omega arith)

pub long_enough : (s : List ℕ) → sheet_refusal_in 1 64 s ≡ 13 → 16 ≤ length s
unfolding sheet_refusal_in length_in_range
long_enough s e = (between_true 16 file_limit (length s) (not_by_11 (between 16 file_limit (length s)) _ e)).0

-- ---- a number of a conversion, taken apart: the sheet's own are at most 46
few_by : (g : Bool) (k : ℕ) {x : ℕ} → k ≤ 46 → x ≤ 46 → cond g k x ≤ 46
few_by true k h l = h
few_by false k h l = l

body_few : (back count : ℕ) (s : List ℕ) → body_refusal 16 back count 16 17 s ≤ 46
unfolding body_refusal
body_few back count s =
    let own = read_number 0 4 (trailer 16 s) in
    few_by (not (eqb own back && reaches 16 own s)) 16 (omega arith) (few_by (all_in_range (values count (body 16 back s))) 0 {x = 17} (omega arith) (omega arith))

own_few : (s : List ℕ) → sheet_refusal_in 1 64 s ≤ 46
unfolding sheet_refusal_in
own_few s =
    let in_Body = body_refusal 16 (sheet_back s) (sheet_columns s) 16 17 s in
    few_by (not (length_in_range 16 s)) 11 (omega arith)
    (few_by (not (sheet_lettered WSH1 s || sheet_lettered WSH2 s)) 12 (omega arith)
    (few_by (not (between 1 64 (sheet_columns s))) 13 (omega arith)
    (few_by (not (between 1 step_limit (sheet s).steps)) 14 (omega arith)
    (few_by (ltb 1024000000 (sheet s).tolerance) 15 (omega arith)
    (few_by (not (eqb in_Body 0)) in_Body (body_few (sheet_back s) (sheet_columns s) s) (few_by (between 1 64 (sum (sheet s).factors)) 0 {x = 46} (omega arith) (omega arith)))))))

-- the number of a sheet that is refused by `own`, whose factors are all 1 or not, and whose other edition is too long or not
abbrev number_of : (own : ℕ) → (g long : Bool) → ℕ
number_of k g l = cond (eqb k 0) (cond (not g) 47 (cond l 48 0)) k

apart_13 : (k : ℕ) (g l : Bool) → number_of k g l ≡ 13 → k ≡ 13
apart_13 zero false l e = absurd (omega arith)
apart_13 zero true false e = absurd (omega arith)
apart_13 zero true true e = absurd (omega arith)
apart_13 (suc k) g l e = rw (eqb-suc-zero k) at e

apart_47 : (k : ℕ) (g l : Bool) → k ≤ 46 → number_of k g l ≡ 47 → (k ≡ 0) × (g ≡ false)
apart_47 zero false l h e = (refl, refl)
apart_47 zero true false h e = absurd (omega arith)
apart_47 zero true true h e = absurd (omega arith)
apart_47 (suc k) g l h e = absurd (let q : suc k ≡ 47 = rw (eqb-suc-zero k) at e in omega arith)

apart_48 : (k : ℕ) (g l : Bool) → k ≤ 46 → number_of k g l ≡ 48 → (k ≡ 0) × (g ≡ true)
apart_48 zero false l h e = absurd (omega arith)
apart_48 zero true l h e = (refl, refl)
apart_48 (suc k) g l h e = absurd (let q : suc k ≡ 48 = rw (eqb-suc-zero k) at e in omega arith)

module _ (s : List ℕ) (room : ℕ) where
  abbrev long : Bool
  long = ltb room (length (other_edition s)) || ltb file_limit (length (other_edition s))

  pub long_of_13 : edition_refusal s room ≡ 13 → 16 ≤ length s
  unfolding edition_refusal
  long_of_13 e = long_enough s (apart_13 (sheet_refusal_in 1 64 s) (all_ones (sheet s).factors) long e)

  pub of_47 : edition_refusal s room ≡ 47 → (sheet_refusal_in 1 64 s ≡ 0) × (all_ones (sheet s).factors ≡ false)
  unfolding edition_refusal
  of_47 e = apart_47 (sheet_refusal_in 1 64 s) (all_ones (sheet s).factors) long (own_few s) e

  pub of_48 : edition_refusal s room ≡ 48 → Convertible s
  unfolding edition_refusal
  of_48 e = apart_48 (sheet_refusal_in 1 64 s) (all_ones (sheet s).factors) long (own_few s) e

-- ---- which line
module _ (s : List ℕ) {n : ℕ} {t : Text} where
  pub told_13 : n ≡ 13 → Holds (columns_line s) t → Holds (edition_detail s n) t
  unfolding edition_detail
  told_13 e h = rw e h

  pub told_47 : n ≡ 47 → Holds (factor_line s) t → Holds (edition_detail s n) t
  unfolding edition_detail
  told_47 e h = rw e h

  pub told_48 : n ≡ 48 → Holds (size_line s) t → Holds (edition_detail s n) t
  unfolding edition_detail
  told_48 e h = rw e h

-- the number alone is known of every other reason
module _ (s : List ℕ) where
  no_line : (r : Refusal) → (r ≡ SheetColumns → ⊥) → (r ≡ EditionFactors → ⊥) → (r ≡ EditionRoom → ⊥) → edition_detail s (number r) ≡ []
  unfolding edition_detail
  no_line BookLength x y z = refl
  no_line BookLetters x y z = refl
  no_line BookBoats x y z = refl
  no_line BookColumns x y z = refl
  no_line BookBack x y z = refl
  no_line BookValue x y z = refl
  no_line SheetLength x y z = refl
  no_line SheetLetters x y z = refl
  no_line SheetColumns x y z = absurd (x refl)
  no_line SheetSteps x y z = refl
  no_line SheetTolerance x y z = refl
  no_line SheetBack x y z = refl
  no_line SheetValue x y z = refl
  no_line ShareSlots x y z = refl
  no_line CardRoom x y z = refl
  no_line CardLength x y z = refl
  no_line CardLetters x y z = refl
  no_line CardCounts x y z = refl
  no_line CardVerdict x y z = refl
  no_line CardBack x y z = refl
  no_line CardBoats x y z = refl
  no_line CardShares x y z = refl
  no_line CardDistance x y z = refl
  no_line CardTolerance x y z = refl
  no_line CellUnweighed x y z = refl
  no_line CellReading x y z = refl
  no_line CellUnit x y z = refl
  no_line QueueSheets x y z = refl
  no_line QueueAllowance x y z = refl
  no_line SheetFactors x y z = refl
  no_line EditionFactors x y z = absurd (y refl)
  no_line EditionRoom x y z = absurd (z refl)
  no_line TableLength x y z = refl
  no_line TableShare x y z = refl
  no_line TableTotal x y z = refl
  no_line ReleasedBoats x y z = refl
  no_line VerdictNotSpent x y z = refl
  no_line MovesAllowed x y z = refl
  no_line MergedColumns x y z = refl
  no_line MergedBoats x y z = refl
  no_line MergedRoom x y z = refl
  no_line ReportCards x y z = refl

  pub told_none : (r : Refusal) → (r ≡ SheetColumns → ⊥) → (r ≡ EditionFactors → ⊥) → (r ≡ EditionRoom → ⊥) → {t : Text} → Holds [] t → Holds (edition_detail s (number r)) t
  told_none r x y z h = rw (no_line r x y z) h

  pub told_accepted : {t : Text} → Holds [] t → Holds (edition_detail s 0) t
  unfolding edition_detail
  told_accepted h = h
