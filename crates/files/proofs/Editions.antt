-- Sheets that differ in their edition alone ask for the same and are refused alike.
use mathlib.Core.Path.{◌≡◌, refl, sym, ap₂, ◌∙◌}
use mathlib.Core.Bool.{Bool, true, false, ◌&&◌, ◌||◌, not, cond}
use mathlib.Core.Logic.{inl, inr}
use mathlib.Core.List.{List}
use Prim.Native.Nat.{ℕ, ◌-◌, ◌≤◌}
use native.Mathlib.Omega.{arith}
use borrow.Author.Tests.{le-leb, eqb-true}
use lib.Dec.{eqb, leb}
use lib.IntN.{ℤ}
use lib.ListN.{length, drop}
use Rattle.frank_wolfe.specs.Vectors.{ones}
use Rattle.files.specs.Bytes.{number, same, between, all_in_range, length_in_range, trailer, reaches, body_refusal}
use Rattle.files.specs.Sheet.{Sheet, sheet, sheet_columns, WSH1, WSH2, sheet_lettered, sheet_back, SheetWhole, sheet_refusal_in}
use Rattle.files.specs.Editions.{SameValues, EditionsAlike}
use Rattle.files.proofs.Letters.{same_eq}
use Rattle.files.specs.Limits.{file_limit}

-- a sheet that holds its body: the body is refused by a wrong back count or a value alone
module _ (s : List ℕ) (w : SheetWhole s) where
  placed : (t : Bool) → eqb (number 0 4 (trailer 16 s)) (sheet_back s) ≡ t → t && leb (number 0 4 (trailer 16 s)) (length s - 16) ≡ t
  placed true e = le-leb (number 0 4 (trailer 16 s)) (length s - 16) (omega (arith, eqb-true (number 0 4 (trailer 16 s)) (sheet_back s) e))
  placed false e = refl

  pub body_tests : body_refusal 16 (sheet_back s) (sheet_columns s) 16 17 s
      ≡ cond (not (eqb (number 0 4 (trailer 16 s)) (sheet_back s))) 16 (cond (all_in_range (sheet s).target) 0 17)
  unfolding body_refusal reaches sheet
  body_tests = rw (placed _ refl)

  in_length : length s ≤ file_limit → length_in_range 16 s ≡ true
  unfolding length_in_range between
  in_length h = simp (le-leb 16 (length s) (omega arith), le-leb (length s) file_limit h)

or_true : (a : Bool) → a || true ≡ true
or_true true = refl
or_true false = refl

abbrev made : List ℤ → List ℕ → (steps tolerance : ℕ) → Sheet
made a b k t = record { target = a; factors = b; steps = k; tolerance = t }

sheet_parts : (s t : Sheet) → s.target ≡ t.target → s.factors ≡ t.factors → s.steps ≡ t.steps → s.tolerance ≡ t.tolerance → s ≡ t
sheet_parts s t p q r u = ap₂ (λ a b. made a b s.steps s.tolerance) p q ∙ ap₂ (made t.target t.factors) r u

module _ {x y : List ℕ} (e : SameValues x y) where
  not_second : sheet_lettered WSH2 x ≡ false
  unfolding sheet_lettered same
  not_second = rw (same_eq (drop 12 (trailer 16 x)) WSH1 e.first)

  plain_first : (sheet x).factors ≡ ones (sheet_columns x)
  unfolding sheet
  plain_first = rw not_second

  pub same_sheet : sheet x ≡ sheet y
  same_sheet = let f : (sheet x).factors ≡ (sheet y).factors = plain_first ∙ rw e.columns (sym e.factors) in sheet_parts (sheet x) (sheet y) e.target f e.steps e.tolerance

  pub same_refusal : (a z : ℕ) → sheet_refusal_in a z x ≡ sheet_refusal_in a z y
  unfolding sheet_refusal_in
  same_refusal a z =
      rw (
        body_tests x e.whole.0,
        body_tests y e.whole.1,
        e.backs,
        in_length x e.whole.0 e.most_bytes.0,
        in_length y e.whole.1 e.most_bytes.1,
        e.first,
        e.second,
        or_true,
        same_sheet,
        e.columns,
      )

pub editions_alike : EditionsAlike
unfolding EditionsAlike
editions_alike s t (inl e) = (same_sheet e, same_refusal e)
editions_alike s t (inr e) = (sym (same_sheet e), λ a z. sym (same_refusal e a z))
