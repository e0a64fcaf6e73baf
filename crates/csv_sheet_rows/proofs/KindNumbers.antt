-- Two kinds of rows are equal where their numbers are.
use mathlib.Core.Path.{◌≡◌, refl, sym, ◌∙◌}
use mathlib.Core.Bool.{Bool, true, false}
use borrow.Author.Tests.{eqb-true, eqb-false}
use lib.Dec.{eqb}
use denote.Enum.Bare.{sameb}
use denote.Enum.Declared.{tag_of}
use Rattle.csv_sheet_rows.specs.contracts.Kind.{the_type}
use Rattle.csv_sheet_rows.specs.declared.Kind.{Kind}
use Rattle.csv_sheet_rows.specs.declared.Kind.TheVariants.{Hull, Units, Factors, Steps, Tolerance, Each, Displacement, Length, Blank}
use Rattle.csv_sheet_rows.specs.Numbers.{kind_number}

tag_number : (k : Kind) → tag_of the_type k ≡ kind_number k
tag_number Hull = refl
tag_number Units = refl
tag_number Factors = refl
tag_number Steps = refl
tag_number Tolerance = refl
tag_number Each = refl
tag_number Displacement = refl
tag_number Length = refl
tag_number Blank = refl

same_is : (a b : Kind) → sameb the_type a b ≡ eqb (kind_number a) (kind_number b)
same_is a b = rw (← tag_number a, ← tag_number b) refl

module _ (a b : Kind) {s : Bool} (e : s ≡ sameb the_type a b) where
  pub same_number : s ≡ true → kind_number a ≡ kind_number b
  same_number h = eqb-true (kind_number a) (kind_number b) (sym (same_is a b) ∙ (sym e ∙ h))

  pub other_number : s ≡ false → kind_number a ≡ kind_number b → ⊥
  other_number h = eqb-false (kind_number a) (kind_number b) (sym (same_is a b) ∙ (sym e ∙ h))
