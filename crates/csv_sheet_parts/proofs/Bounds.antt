-- The numbers of a CSV whose rows have no fault are in range, and so is what is made of them.
use mathlib.Core.Path.{◌≡◌, refl, ap}
use mathlib.Core.Bool.{Bool, true, false, cond}
use mathlib.Core.List.{List, [], ◌∷◌, map}
use Prim.Native.Nat.{ℕ, suc, ◌*◌, ◌≤◌, ◌<◌}
use native.Mathlib.Omega.{arith}
use borrow.Author.Tests.{eq-eqb, ne_eqb, eqb-true, eqb-false, not-false}
use lib.Dec.{eqb}
use lib.IntN.{ℤ}
use lib.ListN.{length, get_or, length-map}
use Rattle.frank_wolfe.specs.Vectors.{ones}
use Rattle.files.specs.Bytes.{in_range, all_in_range}
use Rattle.files.specs.Limits.{step_limit}
use Rattle.csv_bytes.specs.declared.Cell.{Cell}
use Rattle.csv_fleet_rows.proofs.Counting.{signed_in}
use Rattle.csv_sheet_rows.specs.Kinds.{kind_at}
use Rattle.csv_sheet_rows.specs.Rows.{last_row, rows_fault}
use Rattle.csv_sheet_rows.specs.Sound.{Sound}
use Rattle.csv_sheet_rows.proofs.Soundness.{sound}
use Rattle.csv_sheet_parts.specs.Parts.{cell_at, row_for, value_at, target_of, has_factors, factor_at, factors_of, steps_of, tolerance_by, tolerance_for}
use Rattle.csv_sheet_parts.specs.Ready.{Ready}

-- ---- how many there are
pub rows_few : (csv : List ℕ) → (rows_fault csv).fault ≡ 0 → {l : ℕ} → l ≡ last_row csv → l ≤ 15
rows_few csv z e = rw e (sound csv z).few_rows

pub target_long : (ps csv : List ℕ) → length (target_of ps csv) ≡ length ps
unfolding target_of
target_long ps csv = length-map ps (value_at (row_for 0 csv) csv)

pub factors_long : (ps csv : List ℕ) → length (factors_of ps csv) ≡ length ps
unfolding factors_of
factors_long ps csv = length-map ps (factor_at (row_for 2 csv) csv)

-- ---- values and factors
map_in : (f : ℕ → ℤ) (ps : List ℕ) → ((i : ℕ) → i < length ps → in_range (f (get_or ps i 0)) ≡ true) → all_in_range (map f ps) ≡ true
unfolding all_in_range
map_in f [] h = refl
map_in f (p ∷ ps) h = rw (h 0 (omega arith)) (map_in f ps (λ i k. h (suc i) (omega arith)))

module _ {ps csv : List ℕ} (d : Ready ps csv) where
  abbrev good : Sound csv
  good = sound csv d.faultless

  pub place_few : (i : ℕ) → i < length ps → get_or ps i 0 ≤ 64
  place_few i h = omega (arith, d.last i h, good.few_columns)

  pub value_small : (i : ℕ) → i < length ps → (cell_at (row_for 0 csv) (get_or ps i 0) csv).magnitude ≤ 2000
  value_small i h = good.values_fit (get_or ps i 0) (d.first i h) (d.last i h)

  pub target_in : all_in_range (target_of ps csv) ≡ true
  unfolding target_of value_at
  target_in = map_in (value_at (row_for 0 csv) csv) ps (λ i h. signed_in (cell_at (row_for 0 csv) (get_or ps i 0) csv).negative _ (value_small i h))

  pub factor_small : (i : ℕ) → i < length ps → factor_at (row_for 2 csv) csv (get_or ps i 0) ≤ 64
  unfolding factor_at
  factor_small i h = by (eqb (row_for 2 csv) 0) refl
    where
      by : (t : Bool) → eqb (row_for 2 csv) 0 ≡ t → cond t 1 (cell_at (row_for 2 csv) (get_or ps i 0) csv).magnitude ≤ 64
      by true e = omega arith
      by false e = good.factors_fit (eqb-false _ 0 e) (get_or ps i 0) (d.first i h) (d.last i h)

  pub steps_some : 1 ≤ steps_of csv
  unfolding steps_of
  steps_some = good.some_steps

  pub steps_few : steps_of csv ≤ step_limit
  unfolding steps_of
  steps_few = good.few_steps

-- ---- without a row of factors each is 1
map_ones : (csv ps : List ℕ) (r : ℕ) → r ≡ 0 → map (factor_at r csv) ps ≡ ones (length ps)
unfolding factor_at
map_ones csv [] r z = refl
map_ones csv (p ∷ ps) r z = rw (eq-eqb r 0 z) (ap (λ (l : List ℕ). 1 ∷ l) (map_ones csv ps r z))

pub factors_plain : (ps csv : List ℕ) → has_factors csv ≡ false → factors_of ps csv ≡ ones (length ps)
unfolding factors_of has_factors
factors_plain ps csv e = map_ones csv ps (row_for 2 csv) (eqb-true _ 0 (not-false _ e))

-- ---- a factor
module _ (r : ℕ) (csv : List ℕ) (f : ℕ) where
  pub no_row : r ≡ 0 → 1 ≡ factor_at r csv f
  unfolding factor_at
  no_row z = rw (eq-eqb r 0 z)

  pub in_row : (r ≡ 0 → ⊥) → {c : Cell} → c ≡ cell_at r f csv → c.magnitude ≡ factor_at r csv f
  unfolding factor_at
  in_row z e = rw (ne_eqb r 0 z, e)

-- ---- the tolerance
module _ (csv : List ℕ) (total : ℕ) {row : ℕ} (er : row ≡ row_for 4 csv) {c : Cell} (ec : c ≡ cell_at row 1 csv) {k : ℕ} (ek : k ≡ kind_at row csv) where
  pub plain_tolerance : (k ≡ 5 → ⊥) → c.magnitude ≡ tolerance_for total csv
  unfolding tolerance_for tolerance_by
  plain_tolerance h = rw (← er, ← ek, ne_eqb k 5 h, ec)

  module _ (h : k ≡ 5) where
    pub each_tolerance : c.magnitude * c.magnitude * total ≡ tolerance_for total csv
    unfolding tolerance_for tolerance_by
    each_tolerance = rw (← er, ← ek, eq-eqb k 5 h, ec)

    pub each_small : (rows_fault csv).fault ≡ 0 → c.magnitude ≤ 32000
    each_small z = rw (ec, er) ((sound csv z).each_fits (rw (← er, ← ek) h))
