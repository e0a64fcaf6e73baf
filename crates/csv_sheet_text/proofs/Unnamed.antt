-- The line of a number that no fault has.
use mathlib.Core.Path.{◌≡◌, refl, sym}
use mathlib.Core.Bool.{Bool, true, false}
use mathlib.Core.List.{List}
use Prim.Native.Nat.{ℕ, ◌≤◌}
use native.Mathlib.Omega.{arith}
use borrow.Author.Tests.{ne_eqb}
use Rattle.files.specs.Bytes.{between}
use Rattle.files.proofs.Refusal.{between_true}
use Rattle.message_parts.specs.Parts.{part}
use Rattle.csv_fleet_tokens.specs.declared.Fault.TheVariants.{Long, Nameless, Columnless, Many, NoValue, NotWhole, OutOfRange, Boats, Boatless, Big, Room, Fleet, Rows, Again, NoHull, NoSteps, NoTolerance, Missing, Twice, Unknown, FleetTwice, FactorTotal, LargeTolerance, ManyValues, Stray, Open}
use Rattle.csv_book_words.specs.Faults.{NoFault}
use Rattle.csv_book_words.specs.Words.{NONE_WORDS, other_words, plain_words, wants_value}
use Rattle.csv_sheet.specs.Outcomes.{Outcome}
use Rattle.csv_sheet_words.specs.Words.{missing_words, limit_words, words, of_value, wants_row, wants_column, row_line, no_fault}
use Rattle.csv_sheet_text.specs.Lines.{looked, row_name, row_fault, sheet_fault}

outside : (least most n : ℕ) (b : Bool) → between least most n ≡ b → (least ≤ n → n ≤ most → ⊥) → between least most n ≡ false
outside least most n false e h = e
outside least most n true e h = let q = between_true least most n e in elim (h q.0 q.1) [ ]

module _ (n : ℕ) (none : NoFault n) where
  not_value : between 5 7 n ≡ false
  not_value = outside 5 7 n (between 5 7 n) refl (λ l m. omega (arith, l, m, none NoValue, none NotWhole, none OutOfRange))

  not_column : between 18 21 n ≡ false
  not_column = outside 18 21 n (between 18 21 n) refl (λ l m. omega (arith, l, m, none Missing, none Twice, none Unknown, none FleetTwice))

  plain_none : plain_words n ≡ NONE_WORDS
  unfolding plain_words other_words
  plain_none =
      rw (
        ne_eqb n 1 (λ e. none Long (sym e)),
        ne_eqb n 2 (λ e. none Nameless (sym e)),
        ne_eqb n 3 (λ e. none Columnless (sym e)),
        ne_eqb n 4 (λ e. none Many (sym e)),
        ne_eqb n 8 (λ e. none Boats (sym e)),
        ne_eqb n 9 (λ e. none Boatless (sym e)),
        ne_eqb n 10 (λ e. none Big (sym e)),
        ne_eqb n 11 (λ e. none Room (sym e)),
        ne_eqb n 260 (λ e. none Stray (sym e)),
        ne_eqb n 261 (λ e. none Open (sym e)),
      ) refl

  limit_none : limit_words n ≡ NONE_WORDS
  unfolding limit_words missing_words
  limit_none =
      rw (
        ne_eqb n 4 (λ e. none Many (sym e)),
        ne_eqb n 10 (λ e. none Big (sym e)),
        ne_eqb n 13 (λ e. none Rows (sym e)),
        ne_eqb n 22 (λ e. none FactorTotal (sym e)),
        ne_eqb n 23 (λ e. none LargeTolerance (sym e)),
        ne_eqb n 15 (λ e. none NoHull (sym e)),
        ne_eqb n 16 (λ e. none NoSteps (sym e)),
        ne_eqb n 17 (λ e. none NoTolerance (sym e)),
      ) plain_none

  words_none : (p k : ℕ) (v : List ℕ) → words n p k v ≡ NONE_WORDS
  unfolding words
  words_none p k v =
      rw (
        ne_eqb n 5 (λ e. none NoValue (sym e)),
        ne_eqb n 6 (λ e. none NotWhole (sym e)),
        ne_eqb n 7 (λ e. none OutOfRange (sym e)),
        ne_eqb n 24 (λ e. none ManyValues (sym e)),
        ne_eqb n 14 (λ e. none Again (sym e)),
        ne_eqb n 2 (λ e. none Nameless (sym e)),
      ) limit_none

  no_row : wants_row n ≡ false
  unfolding wants_row of_value
  no_row = rw (not_value, ne_eqb n 14 (λ e. none Again (sym e)), ne_eqb n 24 (λ e. none ManyValues (sym e))) refl

  no_column : (k : ℕ) → wants_column n k ≡ false
  unfolding wants_column of_value
  no_column k = rw not_value refl

  no_value : wants_value n ≡ false
  unfolding wants_value
  no_value = rw (ne_eqb n 6 (λ e. none NotWhole (sym e)), ne_eqb n 7 (λ e. none OutOfRange (sym e))) refl

  pub told_none : (fleet csv : List ℕ) (m : Outcome) → m.fault ≡ n → no_fault m.line ≡ sheet_fault fleet csv m
  unfolding sheet_fault row_fault row_name looked row_line part no_fault
  told_none fleet csv m e = rw (e, ne_eqb n 12 (λ e. none Fleet (sym e)), not_column, no_row, no_column _, no_value, words_none _ _ _) refl
