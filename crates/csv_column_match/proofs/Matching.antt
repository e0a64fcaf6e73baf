-- Columns without mismatch match one to one.
use mathlib.Core.Path.{◌≡◌, refl, sym, ◌∙◌}
use mathlib.Core.Bool.{Bool, true, false}
use mathlib.Core.List.{List}
use Prim.Native.Nat.{ℕ, zero, suc, ◌-◌, ◌≤◌, ◌<◌}
use native.Mathlib.Omega.{arith}
use borrow.Author.Tests.{ltb-true, ltb-false}
use lib.Dec.{ltb}
use Rattle.csv_cells.specs.Cells.{cell_text}
use Rattle.csv_column_match.specs.Match.{column_of, position, mismatch}
use Rattle.csv_column_match.specs.Matched.{WithoutMismatchMatched}
use Rattle.csv_column_match.proofs.Looking.{column_few, column_named, column_last}
use Rattle.csv_column_match.proofs.Mismatches.{Placed, fleet_placed, all_known, without_mismatch}

positive : {k : ℕ} → (k ≡ 0 → ⊥) → 1 ≤ k
positive {k = zero} n = absurd (n refl)
positive {k = suc k} n = omega arith

-- two numbers of which neither is below the other
neither : (a b : ℕ) → (a < b → ⊥) → (b < a → ⊥) → a ≡ b
neither a b n m = by (ltb a b) (ltb b a) refl refl
  where
    by : (s t : Bool) → ltb a b ≡ s → ltb b a ≡ t → a ≡ b
    by true t p q = absurd (n (ltb-true a b p))
    by false true p q = absurd (m (ltb-true b a q))
    by false false p q = omega (arith, ltb-false a b p, ltb-false b a q)

module _ (n j : ℕ) (fleet csv : List ℕ) (d : Placed n j fleet csv) where
  named : cell_text 0 (position n j fleet csv) csv ≡ cell_text 0 j fleet
  unfolding position
  named = column_named (cell_text 0 j fleet) csv n d.there

  -- a column of the sheet with its name is its own
  only : (f : ℕ) → 1 ≤ f → f ≤ n → cell_text 0 f csv ≡ cell_text 0 j fleet → position n j fleet csv ≡ f
  unfolding position
  only f h k e =
      neither _ f (λ l. column_last (cell_text 0 j fleet) csv n f l k e)
      (λ l. column_last (cell_text 0 j fleet) csv (position n j fleet csv - 1) f (omega (arith, d.once)) (omega arith) e)

  -- no column of the fleet before it has its name
  first_in_fleet : (i : ℕ) → 1 ≤ i → i < j → cell_text 0 i fleet ≡ cell_text 0 j fleet → ⊥
  first_in_fleet i h l e = column_last (cell_text 0 j fleet) fleet (j - 1) i (omega (arith, d.fleet_once)) (omega arith) e

module _ (m n : ℕ) (fleet csv : List ℕ) (z : (mismatch m n fleet csv).fault ≡ 0) where
  at_column : (j : ℕ) → 1 ≤ j → j ≤ m → Placed n j fleet csv
  at_column = fleet_placed n fleet csv m (without_mismatch m n fleet csv z).0

  known : (f : ℕ) → 1 ≤ f → f ≤ n → column_of (cell_text 0 f csv) m fleet ≡ 0 → ⊥
  known = all_known m fleet csv n (without_mismatch m n fleet csv z).1

  own_place : (j k : ℕ) → 1 ≤ j → j ≤ m → 1 ≤ k → k ≤ m → position n j fleet csv ≡ position n k fleet csv → j ≡ k
  own_place j k a b s t e =
      let p : cell_text 0 j fleet ≡ cell_text 0 k fleet = sym (named n j fleet csv (at_column j a b)) ∙ rw e (named n k fleet csv (at_column k s t)) in
      neither j k (λ l. first_in_fleet n k fleet csv (at_column k s t) j a l p) (λ l. first_in_fleet n j fleet csv (at_column j a b) k s l (sym p))

  each_place : (f : ℕ) → 1 ≤ f → f ≤ n → position n (column_of (cell_text 0 f csv) m fleet) fleet csv ≡ f
  each_place f h k =
      let name = cell_text 0 f csv in
      only n (column_of name m fleet) fleet csv (at_column _ (positive (known f h k)) (column_few name fleet m)) f h k (sym (column_named name fleet m (known f h k)))

pub without_mismatch_matched : WithoutMismatchMatched
unfolding WithoutMismatchMatched position
without_mismatch_matched m n fleet csv z =
    record {
      first = λ j a b. positive (at_column m n fleet csv z j a b).there;
      last = λ j a b. column_few (cell_text 0 j fleet) csv n;
      same_name = λ j a b. named n j fleet csv (at_column m n fleet csv z j a b);
      own = own_place m n fleet csv z;
      some = λ f h k. positive (known m n fleet csv z f h k);
      few = λ f h k. column_few (cell_text 0 f csv) fleet m;
      each = each_place m n fleet csv z;
    }
