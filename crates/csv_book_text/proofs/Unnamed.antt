-- A number that no fault has is told as the fault of the fleet is, which has no words in a fleet's line.
use mathlib.Core.Path.{◌≡◌, refl, sym}
use mathlib.Core.List.{List}
use Prim.Native.Nat.{ℕ}
use borrow.Author.Tests.{ne_eqb}
use Rattle.csv_fleet_tokens.specs.declared.Fault.TheVariants.{Long, Nameless, Columnless, Many, NoValue, NotWhole, OutOfRange, Boats, Boatless, Big, Room, Stray, Open}
use Rattle.csv_book.specs.Books.{nothing_made}
use Rattle.csv_book_words.specs.Faults.{NoFault}
use Rattle.csv_book_words.specs.Words.{other_words, plain_words, words, wants_boat, wants_column, wants_value, fault_line}
use Rattle.csv_book_text.specs.Faults.{fleet_fault}

module _ (n : ℕ) (none : NoFault n) where
  other_same : other_words 12 ≡ other_words n
  unfolding other_words
  other_same = rw (ne_eqb n 9 (λ e. none Boatless (sym e)), ne_eqb n 10 (λ e. none Big (sym e)), ne_eqb n 11 (λ e. none Room (sym e)), ne_eqb n 260 (λ e. none Stray (sym e)), ne_eqb n 261 (λ e. none Open (sym e))) refl

  plain_same : plain_words 12 ≡ plain_words n
  unfolding plain_words
  plain_same = rw (ne_eqb n 1 (λ e. none Long (sym e)), ne_eqb n 2 (λ e. none Nameless (sym e)), ne_eqb n 3 (λ e. none Columnless (sym e)), ne_eqb n 4 (λ e. none Many (sym e)), ne_eqb n 8 (λ e. none Boats (sym e))) other_same

  words_same : (p c : ℕ) (v : List ℕ) → words 12 p c v ≡ words n p c v
  unfolding words
  words_same p c v = rw (ne_eqb n 6 (λ e. none NotWhole (sym e)), ne_eqb n 7 (λ e. none OutOfRange (sym e)), ne_eqb n 5 (λ e. none NoValue (sym e)), ne_eqb n 2 (λ e. none Nameless (sym e)), ne_eqb n 4 (λ e. none Many (sym e))) plain_same

  boat_same : (p c : ℕ) → wants_boat 12 p c ≡ wants_boat n p c
  unfolding wants_boat
  boat_same p c = rw (ne_eqb n 5 (λ e. none NoValue (sym e))) refl

  column_same : (p c : ℕ) → wants_column 12 p c ≡ wants_column n p c
  unfolding wants_column
  column_same p c = rw (ne_eqb n 4 (λ e. none Many (sym e)), ne_eqb n 5 (λ e. none NoValue (sym e))) refl

  value_same : wants_value 12 ≡ wants_value n
  unfolding wants_value
  value_same = rw (ne_eqb n 6 (λ e. none NotWhole (sym e)), ne_eqb n 7 (λ e. none OutOfRange (sym e))) refl

  pub told_same : (csv : List ℕ) (l p b c : ℕ) → fleet_fault csv (nothing_made 12 l p b c) ≡ fleet_fault csv (nothing_made n l p b c)
  unfolding fleet_fault fault_line
  told_same csv l p b c = rw (← boat_same p c, ← column_same p c, ← value_same, ← words_same p c) refl
