-- What refuses a cell, and what an accepted cell is.
use mathlib.Core.Path.{◌≡◌, refl, sym, ◌∙◌}
use mathlib.Core.Bool.{Bool, true, false, ◌&&◌, not, cond, true≢false}
use mathlib.Core.Logic.{◌⊎◌, inl, inr}
use Prim.Native.Nat.{ℕ, ◌*◌, ◌≤◌, ◌<◌}
use native.Mathlib.Nat.{zero-mul}
use native.Mathlib.Omega.{arith}
use borrow.Author.Tests.{le-leb, lt-leb, le-ltb, leb-true, leb-false, ltb-false}
use lib.Dec.{leb}
use lib.IntN.{ℤ, pos, negsuc, nat_abs, ◌-ℤ◌, ◌*ℤ◌, +ℤ_idr}
use lib.Ieee.{Float, nan, inf, fin, binary64, add, sub, neg}
use lib.Ieee.Fits.{down_pos}
use Rattle.files.specs.Bytes.{between, in_range}
use Rattle.files.proofs.Refusal.{and_true, between_true}
use Rattle.files.proofs.Values.{in_range_bound}
use Rattle.rounding.specs.Rounding.{HalfEven, rounded}
use Rattle.rounding.proofs.Nearest.{rounding}
use Rattle.scale_readings.specs.Readings.{is_finite, numerator, denominator, most_kilograms, within_limit, whole}
use Rattle.scale_cells.specs.declared.Cell.{Cell}
use Rattle.scale_cells.specs.declared.Cell.TheVariants.{Unweighed, Net, Weighed}
use Rattle.scale_cells.specs.declared.ScaleCell.{ScaleCell}
use Rattle.scale_cells.specs.Cells.{is_weighed, net, cell_value, cell_refusal}
use Rattle.scale_cells.specs.Promise.{finite_readings, Within, Beyond, OutOfReach, CellAccepted, CellJudged}

-- ---- a reading that is not finite
less_nothing : (x y : Float) → is_finite x && is_finite y ≡ false → is_finite (sub binary64 x y) ≡ false
unfolding is_finite sub add neg
less_nothing nan y h = refl
less_nothing (inf s) nan h = refl
less_nothing (inf true) (inf true) h = refl
less_nothing (inf true) (inf false) h = refl
less_nothing (inf false) (inf true) h = refl
less_nothing (inf false) (inf false) h = refl
less_nothing (inf s) (fin t n d) h = refl
less_nothing (fin s m e) nan h = refl
less_nothing (fin s m e) (inf t) h = refl
less_nothing (fin s m e) (fin t n d) h = absurd (true≢false h)

pub net_follows : (c : Cell) → finite_readings c ≡ false → is_finite (net c) ≡ false
unfolding finite_readings net
net_follows Unweighed h = absurd (true≢false h)
net_follows (Net x) h = h
net_follows (Weighed w) h = less_nothing w.gross w.tare h

readings_of : (c : Cell) → is_finite (net c) ≡ true → finite_readings c ≡ true
readings_of c h = by (finite_readings c) refl
  where
    by : (t : Bool) → finite_readings c ≡ t → t ≡ true
    by true e = refl
    by false e = absurd (true≢false (sym h ∙ net_follows c e))

-- ---- the limit
module _ (x : Float) where
  pub within_of : within_limit x ≡ true → (is_finite x ≡ true) × Within x
  unfolding within_limit
  within_of h = let p = and_true (is_finite x) _ h in (p.0, leb-true _ _ p.1)

  beyond_of : within_limit x ≡ false → (is_finite x ≡ false) ⊎ Beyond x
  unfolding within_limit
  beyond_of h = by (is_finite x) refl h
    where
      by : (t : Bool) → is_finite x ≡ t → t && leb (nat_abs (numerator x)) (most_kilograms * denominator x) ≡ false → (is_finite x ≡ false) ⊎ Beyond x
      by true e h = inr (leb-false _ _ h)
      by false e h = inl e

  not_finite : is_finite x ≡ false → within_limit x ≡ false
  unfolding within_limit
  not_finite h = rw h

  is_beyond : Beyond x → within_limit x ≡ false
  unfolding within_limit
  is_beyond h = by (is_finite x)
    where
      by : (t : Bool) → t && leb (nat_abs (numerator x)) (most_kilograms * denominator x) ≡ false
      by true = lt-leb _ _ h
      by false = refl

  is_within : is_finite x ≡ true → Within x → within_limit x ≡ true
  unfolding within_limit
  is_within f h = rw f (le-leb _ _ h)

-- ---- the unit and the value
out_of_range : (v : ℤ) → in_range v ≡ false → 2000 < nat_abs v
unfolding in_range
out_of_range (pos n) h = leb-false n 2000 h
out_of_range (negsuc n) h = omega (arith, ltb-false n 2000 h)

not_in_range : (v : ℤ) → 2000 < nat_abs v → in_range v ≡ false
unfolding in_range
not_in_range (pos n) h = lt-leb n 2000 h
not_in_range (negsuc n) h = le-ltb n 2000 (omega arith)

module _ (u : ℕ) (v : ℤ) where
  abbrev Outside : Type 0
  Outside = (u ≡ 0) ⊎ ((10000 < u) ⊎ (2000 < nat_abs v))

  outside_of : between 1 10000 u && in_range v ≡ false → Outside
  unfolding between
  outside_of h = by (leb 1 u) (leb u 10000) refl refl h
    where
      by : (s t : Bool) → leb 1 u ≡ s → leb u 10000 ≡ t → (s && t) && in_range v ≡ false → Outside
      by false t es et h = inl (omega (arith, leb-false 1 u es))
      by true false es et h = inr (inl (leb-false u 10000 et))
      by true true es et h = inr (inr (out_of_range v h))

  is_outside : Outside → between 1 10000 u && in_range v ≡ false
  unfolding between
  is_outside (inl e) = simp (lt-leb 1 u (omega arith))
  is_outside (inr (inl h)) = by (leb 1 u)
    where
      by : (s : Bool) → (s && leb u 10000) && in_range v ≡ false
      by true = simp (lt-leb u 10000 h)
      by false = refl
  is_outside (inr (inr h)) = by (leb 1 u && leb u 10000)
    where
      by : (s : Bool) → s && in_range v ≡ false
      by true = not_in_range v h
      by false = refl

-- ---- the number by three tests: weighed, within, in range
number : (w l f : Bool) → ℕ
number w l f = cond (not w) 41 (cond (not l) 42 (cond (not f) 43 0))

is_41 : (w l f : Bool) → number w l f ≡ 41 → w ≡ false
unfolding number
is_41 false l f h = refl
is_41 true false f h = absurd (omega arith)
is_41 true true false h = absurd (omega arith)
is_41 true true true h = absurd (omega arith)

is_42 : (w l f : Bool) → number w l f ≡ 42 → (w ≡ true) × (l ≡ false)
unfolding number
is_42 false l f h = absurd (omega arith)
is_42 true false f h = (refl, refl)
is_42 true true false h = absurd (omega arith)
is_42 true true true h = absurd (omega arith)

is_43 : (w l f : Bool) → number w l f ≡ 43 → (w ≡ true) × (l ≡ true) × (f ≡ false)
unfolding number
is_43 false l f h = absurd (omega arith)
is_43 true false f h = absurd (omega arith)
is_43 true true false h = (refl, refl, refl)
is_43 true true true h = absurd (omega arith)

is_0 : (w l f : Bool) → number w l f ≡ 0 → (w ≡ true) × (l ≡ true) × (f ≡ true)
unfolding number
is_0 false l f h = absurd (omega arith)
is_0 true false f h = absurd (omega arith)
is_0 true true false h = absurd (omega arith)
is_0 true true true h = (refl, refl, refl)

module _ (s : ScaleCell) where
  abbrev x : Float
  x = net s.cell

  abbrev fits : Bool
  fits = between 1 10000 s.unit && in_range (cell_value s)

  -- what refuses a cell, and what does not, by its tests
  pub gives_41 : is_weighed s.cell ≡ false → cell_refusal s ≡ 41
  unfolding cell_refusal
  gives_41 w = rw w

  pub gives_42 : is_weighed s.cell ≡ true → within_limit x ≡ false → cell_refusal s ≡ 42
  unfolding cell_refusal
  gives_42 w l = rw (w, l)

  pub gives_43 : is_weighed s.cell ≡ true → within_limit x ≡ true → fits ≡ false → cell_refusal s ≡ 43
  unfolding cell_refusal
  gives_43 w l f = rw (w, l, f)

  pub gives_0 : is_weighed s.cell ≡ true → within_limit x ≡ true → fits ≡ true → cell_refusal s ≡ 0
  unfolding cell_refusal
  gives_0 w l f = rw (w, l, f)

  tests : {n : ℕ} → cell_refusal s ≡ n → number (is_weighed s.cell) (within_limit x) fits ≡ n
  unfolding number cell_refusal
  tests h = h

  pub cell_judged : CellJudged s
  cell_judged =
      record {
        unweighed_41 = (λ h. is_41 _ _ _ (tests h), gives_41);
        beyond_42 = (λ h. let p = is_42 _ _ _ (tests h) in (p.0, inr (beyond_of x p.1)), λ p. gives_42 p.0 (out p.1));
        outside_43 = (
          λ h. let p = is_43 _ _ _ (tests h) in let q = within_of x p.1 in (p.0, q.0, q.1, outside_of s.unit (cell_value s) p.2),
          λ p. gives_43 p.0 (is_within x p.1 p.2) (is_outside s.unit (cell_value s) p.3),
        );
        net_follows = net_follows s.cell;
      }
    where
      out : OutOfReach s.cell → within_limit x ≡ false
      out (inl h) = not_finite x (net_follows s.cell h)
      out (inr (inl h)) = not_finite x h
      out (inr (inr h)) = is_beyond x h

-- ---- an accepted cell
denominator_pos : (x : Float) → 0 < denominator x
unfolding denominator
denominator_pos nan = omega arith
denominator_pos (inf s) = omega arith
denominator_pos (fin s m e) = down_pos e

-- half of d or less rounds to 0
half_is_zero : (n : ℤ) (d : ℕ) → 2 * nat_abs n ≤ d → HalfEven n d (pos 0)
half_is_zero n d h =
    let z : 0 * d ≡ 0 = zero-mul d in
    let e : n -ℤ pos 0 *ℤ pos d ≡ n = rw z (+ℤ_idr n) in
    record { near = rw e h; tie = λ t. refl }

rounded_zero : (n : ℤ) (d : ℕ) → 0 < d → 2 * nat_abs n ≤ d → rounded n d ≡ pos 0
rounded_zero n d D h = rounding.unique n d (rounded n d) (pos 0) D (rounding.rounds n d D) (half_is_zero n d h)

pub cell_accepted : (s : ScaleCell) → cell_refusal s ≡ 0 → CellAccepted s (cell_value s)
unfolding cell_value whole
cell_accepted s h =
    let y = net s.cell in
    let p = is_0 _ _ _ (tests s h) in
    let q = within_of y p.1 in
    let f = and_true (between 1 10000 s.unit) (in_range (cell_value s)) p.2 in
    let u = between_true 1 10000 s.unit f.0 in
    let U : 0 < s.unit = omega (arith, u.0) in
    record {
      weighed = p.0;
      readings = readings_of s.cell q.0;
      finite = q.0;
      within = q.1;
      least_unit = u.0;
      most_unit = u.1;
      kilograms = whole y;
      first = rounding.rounds (numerator y) (denominator y) (denominator_pos y);
      second = rounding.rounds (whole y) s.unit U;
      in_range = in_range_bound (cell_value s) f.1;
      half_kilogram = λ k. rw (rounded_zero (numerator y) (denominator y) (denominator_pos y) k) (rounded_zero (pos 0) s.unit U (omega arith));
    }

pub cell_in_range : (s : ScaleCell) → cell_refusal s ≡ 0 → in_range (cell_value s) ≡ true
cell_in_range s h = (and_true (between 1 10000 s.unit) (in_range (cell_value s)) (is_0 _ _ _ (tests s h)).2).1
