-- What one cell gives, test by test.
use mathlib.Core.Path.{◌≡◌, refl, sym, ap, ◌∙◌}
use mathlib.Core.Bool.{Bool, true, false, ◌&&◌, and-false, true≢false}
use Prim.Native.Nat.{ℕ, zero, suc, ◌≤◌}
use native.Mathlib.Omega.{arith}
use borrow.Author.Tests.{le-leb, lt-leb, lt-ltb, le-ltb, ltb-true, ltb-false}
use lib.IntN.{ℤ, pos, negsuc, nat_abs}
use lib.Signed.{lt_z}
use lib.Ieee.{Float, binary64, sub}
use mir.Syntax.{w16, w64}
use mir.Val.{SFits, to_z, of_z}
use Rattle.integers.proofs.Bounds.{fits, read}
use Rattle.files.specs.Bytes.{between, in_range}
use Rattle.files.proofs.Values.{in_range_bound}
use Rattle.scale_readings.specs.Readings.{within_limit, whole}
use Rattle.rounding.specs.Rounding.{rounded}
use Rattle.scale_cells.specs.declared.Cell.TheVariants.{Unweighed, Net, Weighed}
use Rattle.scale_cells.specs.declared.Weighing.{Weighing}
use Rattle.scale_cells.specs.declared.ScaleCell.{ScaleCell}
use Rattle.scale_cells.specs.Cells.{is_weighed, net, cell_value, cell_refusal}
use Rattle.scale_cells.proofs.Judging.{gives_41, gives_42, gives_43, gives_0}
use Rattle.std.specs.Prelude.{Ok, Err}
use Rattle.refusals.specs.declared.Refusal.{Refusal}
use Rattle.refusals.specs.declared.Refusal.TheVariants.{CellUnweighed, CellReading, CellUnit}
use Rattle.refusals.specs.Numbers.{number}
use Rattle.refusals.proofs.Numbers.{positive}
use Rattle.scale_conversion.specs.Outcomes.{Outcome, outcome, net_cell, cell_outcome, outcome_of}

refused_by : (n : ℕ) (v : ℤ) → (n ≡ 0 → ⊥) → ◌≡◌ {A = Outcome} (record { refusal = n; value = pos 0 }) (outcome_of n v)
unfolding outcome_of
refused_by zero v h = absurd (h refl)
refused_by (suc n) v h = refl

-- whole kilograms that are read back from their bits
pub kilograms_small : (k : ℤ) → nat_abs k ≤ 9007199254740992 → nat_abs (to_z w64 (of_z w64 k)) ≤ 9007199254740992
kilograms_small k h = rw (read w64 9007199254740992 h tt) h

-- a cell that is refused
by_number : (s : ScaleCell) (r : Refusal) → cell_refusal s ≡ number r → outcome (Err r) ≡ cell_outcome s
unfolding cell_outcome
by_number s r e = rw e (refused_by (number r) (cell_value s) (positive r))

-- ---- a value outside the range, and inside
too_low : (v : ℤ) → lt_z v (negsuc 1999) ≡ true → in_range v ≡ false
unfolding in_range
too_low (pos n) h = absurd (true≢false (sym h))
too_low (negsuc n) h = le-ltb n 2000 (omega (arith, ltb-true 1999 n h))

too_high : (v : ℤ) → lt_z (pos 2000) v ≡ true → in_range v ≡ false
unfolding in_range
too_high (pos n) h = lt-leb n 2000 (ltb-true 2000 n h)
too_high (negsuc n) h = absurd (true≢false (sym h))

inside : (v : ℤ) → lt_z v (negsuc 1999) ≡ false → lt_z (pos 2000) v ≡ false → in_range v ≡ true
unfolding in_range
inside (pos n) h k = le-leb n 2000 (ltb-false 2000 n k)
inside (negsuc n) h k = lt-ltb n 2000 (omega (arith, ltb-false 1999 n h))

-- ---- a net x in units of u kilograms
net_weighed : (x : Float) (u : ℕ) → is_weighed (net_cell x u).cell ≡ true
unfolding is_weighed
net_weighed x u = refl

module _ (x : Float) (u : ℕ) where
  abbrev s : ScaleCell
  s = net_cell x u

  limit_is : {t : Bool} → within_limit x ≡ t → within_limit (net s.cell) ≡ t
  unfolding net
  limit_is e = e

  pub net_beyond : within_limit x ≡ false → outcome (Err CellReading) ≡ cell_outcome s
  net_beyond l = by_number s CellReading (gives_42 s (net_weighed x u) (limit_is l))

  pub value_is : {k v : ℤ} → k ≡ whole x → v ≡ rounded k u → v ≡ cell_value s
  unfolding cell_value net
  value_is ek ev = ev ∙ rw ek

  module _ (l : within_limit x ≡ true) where
    outside : between 1 10000 u && in_range (cell_value s) ≡ false → outcome (Err CellUnit) ≡ cell_outcome s
    outside f = by_number s CellUnit (gives_43 s (net_weighed x u) (limit_is l) f)

    pub unit_outside : between 1 10000 u ≡ false → outcome (Err CellUnit) ≡ cell_outcome s
    unit_outside f = outside (rw f)

    -- y is the value
    module _ {y : ℤ} (ey : y ≡ cell_value s) where
      value_outside : in_range y ≡ false → outcome (Err CellUnit) ≡ cell_outcome s
      value_outside f = outside (rw (← ey, f) (and-false (between 1 10000 u)))

      pub value_low : lt_z y (negsuc 1999) ≡ true → outcome (Err CellUnit) ≡ cell_outcome s
      value_low h = value_outside (too_low y h)

      pub value_high : lt_z (pos 2000) y ≡ true → outcome (Err CellUnit) ≡ cell_outcome s
      value_high h = value_outside (too_high y h)

      module _ (h : lt_z y (negsuc 1999) ≡ false) (k : lt_z (pos 2000) y ≡ false) where
        small : nat_abs y ≤ 2000
        small = in_range_bound y (inside y h k)

        pub value_fits : SFits w16 y
        value_fits = fits w16 2000 small tt

        pub value_inside : between 1 10000 u ≡ true → ◌≡◌ {A = Outcome} (outcome (Ok (to_z w16 (of_z w16 y)))) (cell_outcome s)
        unfolding cell_outcome outcome_of
        value_inside b = rw (gives_0 s (net_weighed x u) (limit_is l) (rw (b, ← ey) (inside y h k)), read w16 2000 small tt, ey)

-- ---- a cell in its three cases
module _ (s : ScaleCell) where
  pub unweighed_refused : s.cell ≡ Unweighed → outcome (Err CellUnweighed) ≡ cell_outcome s
  unfolding is_weighed
  unweighed_refused e = by_number s CellUnweighed (gives_41 s (rw e))

  pub net_given : {x : Float} → s.cell ≡ Net x → cell_outcome (net_cell x s.unit) ≡ cell_outcome s
  net_given e = ap (λ c. cell_outcome (record { cell = c; unit = s.unit })) (sym e)

  pub weighing_given : {w : Weighing} → s.cell ≡ Weighed w → cell_outcome (net_cell (sub binary64 w.gross w.tare) s.unit) ≡ cell_outcome s
  unfolding cell_outcome cell_refusal cell_value net is_weighed
  weighing_given e = rw e
