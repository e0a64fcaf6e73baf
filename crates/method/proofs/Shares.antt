-- The shares of the iterates: one a vertex, of total W, on at most t vertices; the point is their combination of the vertices, and the
-- residual moves by k (s - u) in step k.
use mathlib.Core.Path.{◌≡◌, refl, sym, ap, ◌∙◌}
use mathlib.Core.Bool.{Bool, true, false, cond}
use mathlib.Core.List.{List, [], ◌∷◌}
use Prim.Native.Nat.{ℕ, zero, suc, ◌+◌, ◌≤◌, ◌<◌}
use native.Mathlib.Omega.{arith}
use lib.Dec.{eqb}
use lib.IntN.{ℤ, pos}
use lib.ListN.{length, get_or, set, replicate, length-replicate, length-set}
use Rattle.frank_wolfe.specs.Vectors.{add, subtract, scale, sum, combination}
use Rattle.frank_wolfe.proofs.Vectors.{Wide, length_combination, residual_more, subtract_zero, sum_zero, combination_zero, sum_set, combination_set}
use Rattle.method.specs.Problem.{Problem, share, weight}
use Rattle.method.specs.Iterates.{Iterate, start, residual, row, direction, pick, with_shares, step, iterate, support}
use Rattle.method.specs.Bounds.{mixture_iterate}
use Rattle.method.proofs.Weights.{weight_zero, weight_suc}
use Rattle.method.proofs.Picks.{pick_below}

-- ---- One share list

pub share_most : (qs : List ℕ) (i : ℕ) → get_or qs i 0 ≤ sum qs
unfolding sum
share_most [] i = omega arith
share_most (q ∷ qs) zero = omega arith
share_most (q ∷ qs) (suc i) = omega (arith, share_most qs i)

support_set : (qs : List ℕ) (i q : ℕ) → support (set qs i q) ≤ support qs + 1
unfolding support
support_set [] i q = omega arith
support_set (p ∷ qs) zero q = let h : cond (eqb q 0) 0 1 ≤ 1 = one (eqb q 0) in omega arith
  where
    one : (t : Bool) → cond t 0 1 ≤ 1
    one true = omega arith
    one false = omega arith
support_set (p ∷ qs) (suc i) q = omega (arith, support_set qs i q)

support_zero : (n : ℕ) → support (replicate n 0) ≡ 0
unfolding support
support_zero zero = refl
support_zero (suc n) = omega (arith, support_zero n)

-- ---- Iterates

-- the shares after t steps, one a vertex, total W, and the point is their combination of the vertices
pub record Mixed (p : Problem) (t : ℕ) (x : Iterate) : Type 0 where
  pub count : length x.shares ≡ length p.vertices
  pub total : sum x.shares ≡ weight p.schedule t
  pub point : x.point ≡ combination p.columns x.shares p.vertices

pub mixed_is : {p : Problem} {t : ℕ} {x : Iterate} → Mixed p t x → x ≡ mixture_iterate p x.shares
mixed_is {x = x} m = ap (λ y. record { shares = x.shares; point = y }) m.point

-- any shares, one a vertex, that total W
pub shares_mixed : (p : Problem) (t : ℕ) (qs : List ℕ) → length qs ≡ length p.vertices → sum qs ≡ weight p.schedule t → Mixed p t (mixture_iterate p qs)
shares_mixed p t qs e h = record { count = e; total = h; point = refl }

pub mixed_length : {p : Problem} {t : ℕ} {x : Iterate} → Wide p.columns p.vertices → Mixed p t x → length x.point ≡ p.columns
mixed_length {p} {x = x} wide m = rw m.point (length_combination p.columns x.shares p.vertices wide)

pub mixed_share : {p : Problem} {t : ℕ} {x : Iterate} → Mixed p t x → (i : ℕ) → get_or x.shares i 0 ≤ weight p.schedule t
mixed_share {x = x} m i = rw m.total at (share_most x.shares i)

module _ (p : Problem) where
  pub start_mixed : Wide p.columns p.vertices → Mixed p 0 (start p)
  unfolding start
  start_mixed wide =
      record {
        count = length-replicate (length p.vertices) 0;
        total = sum_zero (length p.vertices) ∙ sym (weight_zero p.schedule);
        point = sym (combination_zero p.columns p.vertices wide);
      }

  pub step_mixed : {t : ℕ} {x : Iterate} (g : List ℤ) → 1 ≤ length p.vertices → Mixed p t x → Mixed p (suc t) (step p t g x)
  unfolding step with_shares row
  step_mixed {t} {x} g some m =
      let i = pick p g x in
      let k = share p.schedule t in
      let h : i < length x.shares = rw m.count (pick_below p g x some) in
      record {
        count = length-set x.shares i (get_or x.shares i 0 + k) ∙ m.count;
        total = sum_set x.shares i k h ∙ ap (λ w. w + k) m.total ∙ sym (weight_suc p.schedule t);
        point = ap (λ y. add y (scale k (row p.vertices i))) m.point ∙ combination_set p.columns x.shares p.vertices i k m.count h;
      }

  -- r' = r + k (s - u)
  pub residual_step : (t : ℕ) (g : List ℤ) (x : Iterate) →
      residual p (suc t) (step p t g x) ≡ add (residual p t x) (scale (share p.schedule t) (subtract (row p.vertices (pick p g x)) p.target))
  unfolding residual step with_shares
  residual_step t g x = rw (weight_suc p.schedule t) (residual_more x.point (row p.vertices (pick p g x)) p.target (weight p.schedule t) (share p.schedule t))

  pub residual_start : length p.target ≡ p.columns → residual p 0 (start p) ≡ replicate p.columns (pos 0)
  unfolding residual start
  residual_start e = rw (weight_zero p.schedule) (subtract_zero p.columns p.target e)

  pub iterate_mixed : 1 ≤ length p.vertices → Wide p.columns p.vertices → (t : ℕ) → Mixed p t (iterate p t)
  unfolding iterate
  iterate_mixed some wide zero = start_mixed wide
  iterate_mixed some wide (suc t) = step_mixed (direction p t (iterate p t)) some (iterate_mixed some wide t)

  pub iterate_support : (t : ℕ) → support (iterate p t).shares ≤ t
  unfolding iterate start step with_shares
  iterate_support zero = omega (arith, support_zero (length p.vertices))
  iterate_support (suc t) =
      let x = iterate p t in
      let i = pick p (direction p t x) x in
      omega (arith, iterate_support t, support_set x.shares i (get_or x.shares i 0 + share p.schedule t))
