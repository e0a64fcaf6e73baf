-- The first mismatch: a law for each of its cases, and for the loops that look for it.
use mathlib.Core.Path.{◌≡◌, refl, sym, ap, ◌∙◌}
use mathlib.Core.Bool.{Bool, true, false, cond}
use mathlib.Core.List.{List}
use Prim.Native.Nat.{ℕ, zero, suc, ◌+◌, ◌-◌, ◌≤◌, ◌<◌}
use native.Mathlib.Numerals.{add-one}
use native.Mathlib.Omega.{arith}
use borrow.Author.Tests.{eq-eqb, ne_eqb, eqb-true, eqb-false}
use lib.Dec.{eqb}
use Rattle.csv_cells.specs.Cells.{cell_text}
use Rattle.std.specs.Prelude.{Result, Ok, Err}
use Rattle.std.specs.Result.{IsErr, IsErrAnd}
use Rattle.csv_column_match.specs.declared.Mismatch.{Mismatch}
use Rattle.csv_column_match.specs.Misfits.{Misfit, numbered, misfit_number}
use Rattle.csv_column_match.specs.Match.{column_of, position, none, column_mismatch, fleet_mismatch, unknown, mismatch}
use Rattle.csv_column_match.proofs.Looking.{differ}

-- what a `?` gives back has the numbers of what it was given
pub passed_on : {value : Type 0} (r : Result value Mismatch) (e : Mismatch) {x : Misfit} → IsErr r × IsErrAnd r (λ y. y ≡ e) → numbered e ≡ x →
    misfit_number r ≡ x
passed_on (Ok a) e h q = elim h.1 [ ]
passed_on (Err a) e h q = ap numbered h.1 ∙ q

below : {a b : ℕ} → (a ≡ suc b → ⊥) → a ≤ suc b → a ≤ b
below {a} {b} n h = omega (arith, differ a (suc b) h n)

-- ---- one column
module _ (n j : ℕ) (fleet csv : List ℕ) {at : ℕ} (ea : at ≡ position n j fleet csv) where
  pub is_missing : at ≡ 0 → ◌≡◌ {A = Misfit} (record { fault = 18; column = j }) (column_mismatch n j fleet csv)
  unfolding column_mismatch
  is_missing z = rw (← ea, eq-eqb at 0 z)

  module _ (z : at ≡ 0 → ⊥) {before : ℕ} (eb : before ≡ position (at - 1) j fleet csv) where
    pub is_twice : (before ≡ 0 → ⊥) → ◌≡◌ {A = Misfit} (record { fault = 19; column = j }) (column_mismatch n j fleet csv)
    unfolding column_mismatch
    is_twice h = rw (← ea, ne_eqb at 0 z, ← eb, ne_eqb before 0 h)

    module _ (h : before ≡ 0) {earlier : ℕ} (ee : earlier ≡ column_of (cell_text 0 j fleet) (j - 1) fleet) where
      pub is_fleet_twice : (earlier ≡ 0 → ⊥) → ◌≡◌ {A = Misfit} (record { fault = 21; column = j }) (column_mismatch n j fleet csv)
      unfolding column_mismatch
      is_fleet_twice k = rw (← ea, ne_eqb at 0 z, ← eb, eq-eqb before 0 h, ← ee, ne_eqb earlier 0 k)

      pub is_none : earlier ≡ 0 → {r : Misfit} → r ≡ none → r ≡ column_mismatch n j fleet csv
      unfolding column_mismatch
      is_none k e = e ∙ rw (← ea, ne_eqb at 0 z, ← eb, eq-eqb before 0 h, ← ee, eq-eqb earlier 0 k)

-- what holds of a column without mismatch
pub record Placed (n j : ℕ) (fleet csv : List ℕ) : Type 0 where
  pub there : position n j fleet csv ≡ 0 → ⊥
  pub once : position (position n j fleet csv - 1) j fleet csv ≡ 0
  pub fleet_once : column_of (cell_text 0 j fleet) (j - 1) fleet ≡ 0
  pub is_faultless : column_mismatch n j fleet csv ≡ none

pub column_placed : (n j : ℕ) (fleet csv : List ℕ) → (column_mismatch n j fleet csv).fault ≡ 0 → Placed n j fleet csv
unfolding column_mismatch
column_placed n j fleet csv e = by (eqb at 0) (eqb before 0) (eqb earlier 0) refl refl refl e
  where
    at : ℕ
    at = position n j fleet csv

    before : ℕ
    before = position (at - 1) j fleet csv

    earlier : ℕ
    earlier = column_of (cell_text 0 j fleet) (j - 1) fleet

    by : (a b d : Bool) → eqb at 0 ≡ a → eqb before 0 ≡ b → eqb earlier 0 ≡ d →
        (cond a (record { fault = 18; column = j }) (cond b (cond d none (record { fault = 21; column = j })) (record { fault = 19; column = j }))).fault ≡ 0 → Placed n j fleet csv
    by true b d p q s h = absurd (omega arith)
    by false false d p q s h = absurd (omega arith)
    by false true false p q s h = absurd (omega arith)
    by false true true p q s h =
        record {
          there = eqb-false at 0 p;
          once = eqb-true before 0 q;
          fleet_once = eqb-true earlier 0 s;
          is_faultless = sym (is_none n j fleet csv refl (eqb-false at 0 p) refl (eqb-true before 0 q) refl (eqb-true earlier 0 s) refl);
        }

-- ---- the columns of the fleet
module _ (n : ℕ) (fleet csv : List ℕ) where
  pub fleet_start : fleet_mismatch n 0 fleet csv ≡ none
  unfolding fleet_mismatch
  fleet_start = refl

  fleet_next : (j : ℕ) → fleet_mismatch n j fleet csv ≡ none → fleet_mismatch n (suc j) fleet csv ≡ column_mismatch n (suc j) fleet csv
  unfolding fleet_mismatch
  fleet_next j e = rw e

  fleet_stays : (j m : ℕ) → j ≤ m → ((fleet_mismatch n j fleet csv).fault ≡ 0 → ⊥) → fleet_mismatch n m fleet csv ≡ fleet_mismatch n j fleet csv
  unfolding fleet_mismatch
  fleet_stays j zero h z = let e : j ≡ 0 = omega arith in rw e
  fleet_stays j (suc m) h z = by (eqb j (suc m)) refl (λ l. fleet_stays j m l z)
    where
      by : (t : Bool) → eqb j (suc m) ≡ t → (j ≤ m → fleet_mismatch n m fleet csv ≡ fleet_mismatch n j fleet csv) → fleet_mismatch n (suc m) fleet csv ≡ fleet_mismatch n j fleet csv
      by true e more = rw (eqb-true j (suc m) e)
      by false e more = rw (more (below (eqb-false j (suc m) e) h), ne_eqb _ 0 z)

  module _ (j : ℕ) (d : fleet_mismatch n j fleet csv ≡ none) {r : Misfit} (er : r ≡ column_mismatch n (j + 1) fleet csv) where
    next_is : fleet_mismatch n (j + 1) fleet csv ≡ r
    next_is = rw add-one (fleet_next j d ∙ (rw add-one at (sym er)))

    pub fleet_found : (m : ℕ) → j < m → (r.fault ≡ 0 → ⊥) → r ≡ fleet_mismatch n m fleet csv
    fleet_found m h z = sym (fleet_stays (j + 1) m (omega arith) (λ p. z (rw next_is at p)) ∙ next_is)

    pub fleet_passed : r.fault ≡ 0 → fleet_mismatch n (j + 1) fleet csv ≡ none
    fleet_passed z = next_is ∙ er ∙ (column_placed n (j + 1) fleet csv (rw er at z)).is_faultless

  pub fleet_end : (m j : ℕ) → j ≤ m → m ≤ j → fleet_mismatch n j fleet csv ≡ none → {r : Misfit} → r ≡ none → r ≡ fleet_mismatch n m fleet csv
  fleet_end m j h k d e = let q : m ≡ j = omega arith in e ∙ sym d ∙ rw q

  -- of each column, where there is no mismatch
  pub fleet_placed : (m : ℕ) → (fleet_mismatch n m fleet csv).fault ≡ 0 → (j : ℕ) → 1 ≤ j → j ≤ m → Placed n j fleet csv
  unfolding fleet_mismatch
  fleet_placed zero e j h k = absurd (omega arith)
  fleet_placed (suc m) e j h k = by (eqb (fleet_mismatch n m fleet csv).fault 0) (eqb j (suc m)) refl refl e (λ z l. fleet_placed m z j h l)
    where
      by : (a b : Bool) → eqb (fleet_mismatch n m fleet csv).fault 0 ≡ a → eqb j (suc m) ≡ b →
          (cond a (column_mismatch n (suc m) fleet csv) (fleet_mismatch n m fleet csv)).fault ≡ 0 → ((fleet_mismatch n m fleet csv).fault ≡ 0 → j ≤ m → Placed n j fleet csv) → Placed n j fleet csv
      by true true p q z more = rw (eqb-true j (suc m) q) (column_placed n (suc m) fleet csv z)
      by true false p q z more = more (eqb-true _ 0 p) (below (eqb-false j (suc m) q) k)
      by false b p q z more = absurd (eqb-false _ 0 p z)

-- ---- the columns of the sheet
module _ (m : ℕ) (fleet csv : List ℕ) where
  pub unknown_start : unknown m 0 fleet csv ≡ 0
  unfolding unknown
  unknown_start = refl

  unknown_stays : (j n : ℕ) → j ≤ n → (unknown m j fleet csv ≡ 0 → ⊥) → unknown m n fleet csv ≡ unknown m j fleet csv
  unfolding unknown
  unknown_stays j zero h z = let e : j ≡ 0 = omega arith in rw e
  unknown_stays j (suc n) h z = by (eqb j (suc n)) refl (λ l. unknown_stays j n l z)
    where
      by : (t : Bool) → eqb j (suc n) ≡ t → (j ≤ n → unknown m n fleet csv ≡ unknown m j fleet csv) → unknown m (suc n) fleet csv ≡ unknown m j fleet csv
      by true e more = rw (eqb-true j (suc n) e)
      by false e more = rw (more (below (eqb-false j (suc n) e) h), ne_eqb _ 0 z)

  unknown_one : (j : ℕ) → unknown m j fleet csv ≡ 0 → unknown m (suc j) fleet csv ≡ cond (eqb (column_of (cell_text 0 (suc j) csv) m fleet) 0) (suc j) 0
  unfolding unknown
  unknown_one j d = rw d

  module _ (j : ℕ) (d : unknown m j fleet csv ≡ 0) {r : ℕ} (er : r ≡ column_of (cell_text 0 (j + 1) csv) m fleet) where
    unknown_next : unknown m (j + 1) fleet csv ≡ cond (eqb r 0) (j + 1) 0
    unknown_next = rw (er, add-one) (unknown_one j d)

    pub unknown_found : (n : ℕ) → j < n → r ≡ 0 → j + 1 ≡ unknown m n fleet csv
    unknown_found n h z =
        let p : unknown m (j + 1) fleet csv ≡ j + 1 = unknown_next ∙ rw (eq-eqb r 0 z) in
        sym (unknown_stays (j + 1) n (omega arith) (λ q. omega arith) ∙ p)

    pub unknown_passed : (r ≡ 0 → ⊥) → unknown m (j + 1) fleet csv ≡ 0
    unknown_passed z = unknown_next ∙ rw (ne_eqb r 0 z)

  pub unknown_end : (n j : ℕ) → j ≤ n → n ≤ j → unknown m j fleet csv ≡ 0 → 0 ≡ unknown m n fleet csv
  unknown_end n j h k d = let q : n ≡ j = omega arith in sym d ∙ rw q

  -- each of them is one of the fleet, where none is unknown
  pub all_known : (n : ℕ) → unknown m n fleet csv ≡ 0 → (f : ℕ) → 1 ≤ f → f ≤ n → column_of (cell_text 0 f csv) m fleet ≡ 0 → ⊥
  unfolding unknown
  all_known zero e f h k = absurd (omega arith)
  all_known (suc n) e f h k = by (eqb (unknown m n fleet csv) 0) (eqb (column_of (cell_text 0 (suc n) csv) m fleet) 0) (eqb f (suc n)) refl refl refl e (λ z l. all_known n z f h l)
    where
      by : (a b t : Bool) → eqb (unknown m n fleet csv) 0 ≡ a → eqb (column_of (cell_text 0 (suc n) csv) m fleet) 0 ≡ b → eqb f (suc n) ≡ t →
          cond a (cond b (suc n) 0) (unknown m n fleet csv) ≡ 0 → (unknown m n fleet csv ≡ 0 → f ≤ n → column_of (cell_text 0 f csv) m fleet ≡ 0 → ⊥) → column_of (cell_text 0 f csv) m fleet ≡ 0 → ⊥
      by true true t p q s z more = absurd (omega arith)
      by true false true p q s z more = rw (eqb-true f (suc n) s) (eqb-false _ 0 q)
      by true false false p q s z more = more (eqb-true _ 0 p) (below (eqb-false f (suc n) s) k)
      by false b t p q s z more = absurd (eqb-false _ 0 p z)

-- ---- all of them
module _ (m n : ℕ) (fleet csv : List ℕ) {r : Misfit} (er : r ≡ fleet_mismatch n m fleet csv) where
  pub in_fleet : (r.fault ≡ 0 → ⊥) → r ≡ mismatch m n fleet csv
  unfolding mismatch
  in_fleet z = rw (← er, ne_eqb r.fault 0 z)

  module _ (z : r.fault ≡ 0) {k : ℕ} (ek : k ≡ unknown m n fleet csv) where
    pub in_sheet : (k ≡ 0 → ⊥) → ◌≡◌ {A = Misfit} (record { fault = 20; column = k }) (mismatch m n fleet csv)
    unfolding mismatch
    in_sheet h = rw (← er, eq-eqb r.fault 0 z, ← ek, ne_eqb k 0 h)

    pub in_none : k ≡ 0 → {x : Misfit} → x ≡ none → x ≡ mismatch m n fleet csv
    unfolding mismatch
    in_none h e = e ∙ rw (← er, eq-eqb r.fault 0 z, ← ek, eq-eqb k 0 h)

pub without_mismatch : (m n : ℕ) (fleet csv : List ℕ) → (mismatch m n fleet csv).fault ≡ 0 → ((fleet_mismatch n m fleet csv).fault ≡ 0) × (unknown m n fleet csv ≡ 0)
unfolding mismatch
without_mismatch m n fleet csv e = by (eqb (fleet_mismatch n m fleet csv).fault 0) (eqb (unknown m n fleet csv) 0) refl refl e
  where
    by : (a b : Bool) → eqb (fleet_mismatch n m fleet csv).fault 0 ≡ a → eqb (unknown m n fleet csv) 0 ≡ b →
        (cond a (cond b none (record { fault = 20; column = unknown m n fleet csv })) (fleet_mismatch n m fleet csv)).fault ≡ 0 → ((fleet_mismatch n m fleet csv).fault ≡ 0) × (unknown m n fleet csv ≡ 0)
    by true true p q z = (eqb-true _ 0 p, eqb-true _ 0 q)
    by true false p q z = absurd (omega arith)
    by false b p q z = absurd (eqb-false _ 0 p z)
