-- The promise of specs/SmallGap.antt holds of every well-formed problem with the shares 1, 2, 3, ..
use mathlib.Core.Path.{◌≡◌, ap, sym, ◌∙◌, subst}
use mathlib.Core.List.{List, [], ◌∷◌}
use Prim.Native.Nat.{ℕ, suc, ◌+◌, ◌*◌, ◌≤◌}
use native.Mathlib.Nat.{le_trans, mul-le-mul_right, one-le-mul}
use native.Mathlib.Omega.{arith}
use lib.Dec.{lit≤}
use lib.IntN.{ℤ, pos}
use Rattle.integers.proofs.Solver.{◌⊗◌, x₀, x₁, x₂, solve}
use Rattle.integers.proofs.Order.{≤ℤ→≤}
use Rattle.frank_wolfe.specs.Method.{Space, Sequence}
use Rattle.frank_wolfe.specs.Vectors.{Among}
use Rattle.frank_wolfe.proofs.Vectors.{factored, plus_is}
use Rattle.frank_wolfe.proofs.Theorem.{frank_wolfe}
use Rattle.method.specs.Problem.{Problem, fixed, share, weight}
use Rattle.method.specs.Iterates.{residual, row, direction, pick, with_shares, step, iterate, gap, diameter}
use Rattle.method.specs.Answers.{answer_at}
use Rattle.method.specs.Fractions.{Fraction, IsRatio, ratio, ◌≤ℚ◌}
use Rattle.method.specs.SmallGap.{SmallGap}
use Rattle.method.proofs.Weights.{weight_positive}
use Rattle.method.proofs.Picks.{pick_row, pick_score}
use Rattle.method.proofs.Shares.{iterate_mixed}
use Rattle.method.proofs.Mixtures.{WellFormed, gap_by_least, gap_is}
use Rattle.method.proofs.Iterates.{diameter_is, long, residual_total, iterate_run, weight_by}
use Rattle.method.proofs.Fractions.{ratio_value, same_value, le_exactly}
use Rattle.method.proofs.Published.{is_published}

-- g / v ≤ a / n over one denominator, where n g ≤ a v
ratio_most : {p : Fraction} {g a v m : ℕ} → IsRatio p (pos g) v → (m + 1) * g ≤ a * v → p ≤ℚ ratio (pos a) m
ratio_most {p} {g} {a} {v} {m} h k =
    let hv : 1 ≤ (m + 1) * v = one-le-mul (omega arith) h.above_zero in
    (le_exactly
    (same_value {b = pos ((m + 1) * g)} h hv (solve (pos g ∷ pos (m + 1) ∷ pos v ∷ []) (x₀ ⊗ (x₁ ⊗ x₂)) (x₁ ⊗ x₀ ⊗ x₂) tt))
    (same_value {b = pos (a * v)} (ratio_value (pos a) m) hv (solve (pos a ∷ pos (m + 1) ∷ pos v ∷ []) (x₀ ⊗ (x₁ ⊗ x₂)) (x₀ ⊗ x₂ ⊗ x₁) tt))
    ).1 k

-- the constant is c, 27 or more
above_27 : (c : ℕ) → 27 ≤ c → {n : ℕ} (d w : ℕ) → n ≤ 27 * d * w → n ≤ c * d * w
above_27 c hc d w b = le_trans b (mul-le-mul_right w (mul-le-mul_right d hc))

module _ {p : Problem} (h : WellFormed p) where
  abbrev S : Space
  S = factored p.factors

  abbrev r : ℕ → List ℤ
  r t = residual p t (iterate p t)

  -- the vertex that step t + 1 takes, t above 0
  abbrev taken : ℕ → List ℤ
  taken t = row p.vertices (pick p (residual p t (iterate p t)) (iterate p t))

  sequence : Sequence S (Among p.vertices) p.target (share p.schedule) (λ t. (iterate p t).point) r taken
  unfolding iterate step with_shares direction
  sequence =
      record {
        run = iterate_run h;
        residual = residual_total h;
        argmin = λ t. pick_row p (r (suc t)) (iterate p (suc t)) h.some_row;
        move = λ t. plus_is p.factors (iterate p (suc t)).point (share p.schedule (suc t)) (taken (suc t))
            (long h (suc t) ∙ sym (h.wide.each _ (pick_row p (r (suc t)) (iterate p (suc t)) h.some_row).vertex));
      }

  pub small_gap : p.schedule ≡ fixed → (k : ℕ) → 2 ≤ k → SmallGap p k
  unfolding share answer_at
  small_gap f k hk =
      let e : share p.schedule ≡ suc = ap share f in
      let q : Sequence S (Among p.vertices) p.target suc (λ t. (iterate p t).point) r taken =
      subst (λ a. Sequence S (Among p.vertices) p.target a (λ t. (iterate p t).point) r taken) e sequence in
      let s = (frank_wolfe S (Among p.vertices) p.target).small_gap k hk (diameter_is p.factors h.wide) q in
      let t = s.at in
      let some = weight_positive h.schedule_fits s.some_step in
      let w = weight p.schedule t * weight p.schedule t in
      let b : 4 * (k + 2) * gap p t (iterate p t) ≤ 27 * diameter p * w =
      ≤ℤ→≤ (rw (
        ← weight_by h e t,
        pick_score p (residual p t (iterate p t)) (iterate p t),
        ← gap_by_least h t (iterate p t) (long h t) some,
        gap_is h some (iterate_mixed p h.some_row h.wide t),
      ) at s.bound) in
      record {
        at = t;
        some_step = s.some_step;
        most_steps = s.most_steps;
        bound = above_27 _ (lit≤ tt) (diameter p) w b;
        published = ratio_most (is_published h t s.some_step).gap
            (let n : 4 * k + 7 + 1 ≡ 4 * (k + 2) = omega arith in rw n (above_27 _ (lit≤ tt) (diameter p) w b));
      }
