-- The iterates are a run of the Frank-Wolfe theorem, and the diameter is that of its vertices: the bound by steps, and what Spent means.
use mathlib.Core.Path.{◌≡◌, refl, sym, ap, ap₂, ◌∙◌, subst}
use mathlib.Core.List.{List, [], ◌∷◌}
use Prim.Native.Nat.{ℕ, zero, suc, ◌+◌, ◌*◌, ◌≤◌}
use native.Mathlib.Nat.{le_trans, le_refl, add-le-add, mul-le-mul_right, le_of_mul-le-mul_right, mul-one, le-max_left, le-max_right}
use native.Mathlib.Omega.{arith}
use lib.Dec.{lit≤}
use lib.IntN.{ℤ, pos, ◌-ℤ◌}
use lib.ListN.{length}
use lib.Signed.{◌≤ℤ◌}
use Rattle.integers.proofs.Solver.{con, ◌⊕◌, ◌⊗◌, ◌⊝◌, x₀, x₁, x₂, x₃, solve}
use Rattle.integers.proofs.Order.{≤→≤ℤ, ≤ℤ→≤}
use Rattle.integers.proofs.Facts.{◌≼◌, known, ◌⊞◌, derive}
use Rattle.frank_wolfe.specs.Method.{Space, squared_distance, Residual, Diameter, Scored, at_start, at_iterate, Run, start as run-start, step as run_step, total}
use Rattle.frank_wolfe.specs.Theorem.{Compared}
use Rattle.frank_wolfe.specs.Vectors.{subtract, scale, weighted, weighted_norm, sum, combination, Among, here, there}
use Rattle.frank_wolfe.proofs.Vectors.{factored, Wide, wide_rest, plus_is, residual_is, compared_is, norm_weighted, weighted_zero, weighted_subtract, scale_one}
use Rattle.frank_wolfe.proofs.Theorem.{frank_wolfe}
use Rattle.method.specs.Problem.{Schedule, fixed, lent, Problem, share, weight}
use Rattle.method.specs.Iterates.{start, residual, row, direction, pick, with_shares, step, iterate, distance, mixture_distance, farthest, row_diameter, diameter}
use Rattle.method.specs.Bounds.{StepBound}
use Rattle.method.proofs.Weights.{weight_total, weight_positive}
use Rattle.method.proofs.Argmin.{among_row}
use Rattle.method.proofs.Picks.{pick_row}
use Rattle.method.proofs.Shares.{mixed_length, iterate_mixed}
use Rattle.method.proofs.Mixtures.{WellFormed, residual_of}

-- ---- The diameter

module _ (fs : List ℕ) where
  distance_apart : (s v : List ℤ) → length s ≡ length v → pos (weighted_norm fs (subtract s v)) ≡ squared_distance (factored fs) s v
  distance_apart s v e =
      let d = subtract s v in
      let along : (x : List ℤ) → weighted fs d x ≡ weighted fs x s -ℤ weighted fs x v = λ x. (factored fs).symmetric d x ∙ weighted_subtract fs x s v e in
      norm_weighted fs d ∙ weighted_subtract fs d s v e ∙ ap₂ (λ a b. a -ℤ b) (along s) (along v ∙ ap (λ a. a -ℤ weighted fs v v) ((factored fs).symmetric v s))
      ∙ solve (weighted fs s s ∷ weighted fs s v ∷ weighted fs v v ∷ []) (x₀ ⊝ x₁ ⊝ (x₁ ⊝ x₂)) (x₀ ⊝ con (pos 2) ⊗ x₁ ⊕ x₂) tt

  farthest_over : (v : List ℤ) {vs : List (List ℤ)} {w : List ℤ} → Among vs w → weighted_norm fs (subtract v w) ≤ farthest fs v vs
  unfolding farthest
  farthest_over v (here {v = w} {vs = ws}) = le-max_left (weighted_norm fs (subtract v w)) (farthest fs v ws)
  farthest_over v (there {u} {v = w} {vs = ws} a) = le_trans (farthest_over v a) (le-max_right (weighted_norm fs (subtract v u)) (farthest fs v ws))

  apart : (c : ℕ) {vs : List (List ℤ)} {s v : List ℤ} → Wide c vs → Among vs s → Among vs v → squared_distance (factored fs) s v ≤ℤ pos (row_diameter fs vs)
  unfolding row_diameter
  apart c wide (here {v = s} {vs}) here =
      derive (weighted fs s s ∷ pos (row_diameter fs (s ∷ vs)) ∷ []) (x₀ ⊝ con (pos 2) ⊗ x₀ ⊕ x₀ ≼ x₁) (known (con (pos 0) ≼ x₁) (≤→≤ℤ (omega arith))) tt
  apart c wide (here {v = s} {vs}) (there {v = v} a) =
      rw (← distance_apart s v (wide.each s here ∙ sym (wide.each v (there a))))
      (≤→≤ℤ (le_trans (farthest_over s a) (le-max_left (farthest fs s vs) (row_diameter fs vs))))
  apart c wide (there {v = s} a) (here {v} {vs}) =
      rw ((factored fs).symmetric s v)
      (derive (weighted fs s s ∷ weighted fs v s ∷ weighted fs v v ∷ pos (row_diameter fs (v ∷ vs)) ∷ []) (x₀ ⊝ con (pos 2) ⊗ x₁ ⊕ x₂ ≼ x₃)
      (known (x₂ ⊝ con (pos 2) ⊗ x₁ ⊕ x₀ ≼ x₃)
      (rw (← distance_apart v s (wide.each v here ∙ sym (wide.each s (there a)))) (≤→≤ℤ (le_trans (farthest_over v a) (le-max_left (farthest fs v vs) (row_diameter fs vs)))))) tt)
  apart c wide (there {u} {v = s} {vs} a) (there {v = v} b) =
      derive (squared_distance (factored fs) s v ∷ pos (row_diameter fs vs) ∷ pos (row_diameter fs (u ∷ vs)) ∷ []) (x₀ ≼ x₂)
      (known (x₀ ≼ x₁) (apart c (wide_rest wide) a b) ⊞ known (x₁ ≼ x₂) (≤→≤ℤ (le-max_right (farthest fs u vs) (row_diameter fs vs)))) tt

  pub diameter_is : {c : ℕ} {rs : List (List ℤ)} → Wide c rs → Diameter (factored fs) (Among rs) (pos (row_diameter fs rs))
  diameter_is {c} wide = record { apart = λ s v a b. apart c wide a b }

-- ---- The run

module _ {p : Problem} (h : WellFormed p) where
  abbrev V' : List ℤ → Type 0
  V' = Among p.vertices

  pub long : (t : ℕ) → length (iterate p t).point ≡ p.columns
  long t = mixed_length h.wide (iterate_mixed p h.some_row h.wide t)

  pub residual_total : (t : ℕ) → Residual (factored p.factors) (iterate p t).point (pos (total (share p.schedule) t)) p.target (residual p t (iterate p t))
  residual_total t = rw (weight_total p.schedule t) at (residual_of h t (iterate p t) (long t))

  scored : (t : ℕ) → Scored (factored p.factors) V' p.target (share p.schedule) t (iterate p t).point (direction p t (iterate p t))
  unfolding direction
  scored zero =
      let a : Among p.vertices (row p.vertices 0) = among_row p.vertices 0 h.some_row in
      at_start a (rw (scale_one p.target) at (residual_is p.factors (row p.vertices 0) 1 p.target (h.wide.each (row p.vertices 0) a ∙ sym h.target_length)))
  scored (suc t) = at_iterate (residual_total (suc t))

  pub iterate_run : (t : ℕ) → Run (factored p.factors) V' p.target (share p.schedule) t (iterate p t).point
  unfolding iterate start step with_shares
  iterate_run zero = run-start (record { along = λ x. weighted_zero p.factors x p.columns })
  iterate_run (suc t) =
      let g = direction p t (iterate p t) in
      let l = pick_row p g (iterate p t) h.some_row in
      run_step (iterate_run t) (scored t) l
      (plus_is p.factors (iterate p t).point (share p.schedule t) (row p.vertices (pick p g (iterate p t))) (long t ∙ sym (h.wide.each _ l.vertex)))

module _ {p : Problem} (h : WellFormed p) where
  abbrev S : Space
  S = factored p.factors

  abbrev u : List ℤ
  u = p.target

  abbrev ρ : (qs : List ℕ) → List ℤ
  ρ qs = subtract (combination p.columns qs p.vertices) (scale (sum qs) p.target)

  -- the run and its residual for shares by another name
  run_by : {a : ℕ → ℕ} → share p.schedule ≡ a → (t : ℕ) → Run S (Among p.vertices) u a t (iterate p t).point
  run_by e t = subst (λ a. Run S (Among p.vertices) u a t (iterate p t).point) e (iterate_run h t)

  residual_by : {a : ℕ → ℕ} → share p.schedule ≡ a → (t : ℕ) → Residual S (iterate p t).point (pos (total a t)) u (residual p t (iterate p t))
  residual_by e t = subst (λ a. Residual S (iterate p t).point (pos (total a t)) u (residual p t (iterate p t))) e (residual_total h t)

  pub weight_by : {a : ℕ → ℕ} → share p.schedule ≡ a → (t : ℕ) → weight p.schedule t ≡ total a t
  weight_by e t = weight_total p.schedule t ∙ ap (λ a. total a t) e

  -- what the theorem asks of the shares
  squares : (k : ℕ) → share p.schedule k * share p.schedule k ≤ 2 * total (share p.schedule) (suc k)
  squares k = rw (weight_total p.schedule (suc k)) at (h.schedule_fits.squares k)

  module _ (t : ℕ) (qs : List ℕ) (e : length qs ≡ length p.vertices) where
    compared : Compared S (Among p.vertices) u (sum qs) (combination p.columns qs p.vertices) (ρ qs)
    compared = compared_is p.factors p.columns u qs p.vertices h.target_length e h.wide

    -- the constant is c, 4 or more
    fixed_bound : (c : ℕ) → 4 ≤ c → share p.schedule ≡ suc →
        distance p t (iterate p t) * (sum qs * sum qs) * (t + 2)
        ≤ mixture_distance p qs * (weight p.schedule t * weight p.schedule t) * (t + 2) + c * diameter p * (weight p.schedule t * weight p.schedule t) * (sum qs * sum qs)
    unfolding distance mixture_distance
    fixed_bound c hc g =
        le_trans
        (≤ℤ→≤ (rw (← norm_weighted p.factors (residual p t (iterate p t)), ← norm_weighted p.factors (ρ qs), ← weight_by g t) at
        ((frank_wolfe S (Among p.vertices) u).step_bound (diameter_is p.factors h.wide) (run_by g t) (residual_by g t) compared)))
        (add-le-add (le_refl _) (mul-le-mul_right (sum qs * sum qs) (mul-le-mul_right (weight p.schedule t * weight p.schedule t) (mul-le-mul_right (diameter p) hc))))

    fixed_spent : (c : ℕ) → 4 ≤ c → share p.schedule ≡ suc → (τ : ℕ) → 1 ≤ t → τ * (weight p.schedule t * weight p.schedule t) ≤ distance p t (iterate p t) →
        τ * (sum qs * sum qs) * (t + 2) ≤ mixture_distance p qs * (t + 2) + c * diameter p * (sum qs * sum qs)
    unfolding distance mixture_distance
    fixed_spent c hc g τ ht b =
        le_trans
        (≤ℤ→≤ (rw (← norm_weighted p.factors (ρ qs)) at
        ((frank_wolfe S (Among p.vertices) u).spent (pos τ) (diameter_is p.factors h.wide) ht (run_by g t) (residual_by g t) compared
        (rw (← norm_weighted p.factors (residual p t (iterate p t)), ← weight_by g t) (≤→≤ℤ b)))))
        (add-le-add (le_refl _) (mul-le-mul_right (sum qs * sum qs) (mul-le-mul_right (diameter p) hc)))

    abbrev w : ℕ
    w = weight p.schedule t

    -- of any shares that fit; the constant is c, 2 or more
    any_bound : (c : ℕ) → 2 ≤ c → distance p t (iterate p t) * (sum qs * sum qs) ≤ mixture_distance p qs * (w * w) + c * diameter p * t * w * (sum qs * sum qs)
    unfolding distance mixture_distance
    any_bound c hc =
        le_trans
        (≤ℤ→≤ (rw (← norm_weighted p.factors (residual p t (iterate p t)), ← norm_weighted p.factors (ρ qs), ← weight_total p.schedule t) at
        ((frank_wolfe S (Among p.vertices) u).table_bound h.schedule_fits.some_share squares (diameter_is p.factors h.wide) (iterate_run h t) (residual_total h t) compared)))
        (add-le-add (le_refl _) (mul-le-mul_right (sum qs * sum qs) (mul-le-mul_right w (mul-le-mul_right t (mul-le-mul_right (diameter p) hc)))))

    any_step : (c : ℕ) → 2 ≤ c →
        distance p t (iterate p t) * (sum qs * sum qs) * w ≤ mixture_distance p qs * (w * w) * w + c * diameter p * t * (w * w) * (sum qs * sum qs)
    any_step c hc = le_trans (mul-le-mul_right w (any_bound c hc)) (omega arith)

    any_spent : (c : ℕ) → 2 ≤ c → (τ : ℕ) → 1 ≤ t → τ * (w * w) ≤ distance p t (iterate p t) →
        τ * (sum qs * sum qs) * w ≤ mixture_distance p qs * w + c * diameter p * t * (sum qs * sum qs)
    any_spent c hc τ ht b =
        le_of_mul-le-mul_right
        (le_trans (omega (arith, mul-le-mul_right (sum qs * sum qs) b)) (le_trans (any_bound c hc) (omega arith)))
        (weight_positive h.schedule_fits ht)

    pub step_bound : StepBound p.schedule t (diameter p) (distance p t (iterate p t)) (weight p.schedule t * weight p.schedule t) (sum qs) (mixture_distance p qs)
    unfolding StepBound share
    step_bound = by p.schedule refl
      where
        by : (a : Schedule) → p.schedule ≡ a → StepBound a t (diameter p) (distance p t (iterate p t)) (weight p.schedule t * weight p.schedule t) (sum qs) (mixture_distance p qs)
        by fixed f = fixed_bound _ (lit≤ tt) (ap share f)
        by (lent table) f = rw (← f) (any_step _ (lit≤ tt))

    pub spent_bound : (τ : ℕ) → 1 ≤ t → τ * (weight p.schedule t * weight p.schedule t) ≤ distance p t (iterate p t) →
        StepBound p.schedule t (diameter p) τ 1 (sum qs) (mixture_distance p qs)
    unfolding StepBound share
    spent_bound τ ht b = by p.schedule refl
      where
        by : (a : Schedule) → p.schedule ≡ a → StepBound a t (diameter p) τ 1 (sum qs) (mixture_distance p qs)
        by fixed f = simp mul-one (fixed_spent _ (lit≤ tt) (ap share f) τ ht b)
        by (lent table) f = rw (← f) (simp mul-one (any_spent _ (lit≤ tt) τ ht b))
