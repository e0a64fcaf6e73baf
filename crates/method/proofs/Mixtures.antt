-- What holds of any mixture of the vertices, a run's or a card's: its gap by the least score, that the gap is not negative,
-- the bounds that the gap gives, and how large the numbers are.
use mathlib.Core.Path.{◌≡◌, refl, sym, ap, ◌∙◌}
use mathlib.Core.Bool.{true}
use mathlib.Core.List.{List, [], ◌∷◌}
use Prim.Native.Nat.{ℕ, ◌+◌, ◌*◌, ◌-◌, ◌≤◌, ◌<◌}
use native.Mathlib.Nat.{le_trans, le_of_lt, add-le-add, mul-le-mul_right, le_refl}
use native.Mathlib.Omega.{arith}
use borrow.Author.Tests.{ltb-true}
use lib.Dec.{ltb}
use lib.IntN.{ℤ, pos, negsuc, nat_abs, ◌+ℤ◌, ◌-ℤ◌, ◌*ℤ◌}
use lib.ListN.{length}
use lib.Signed.{◌≤ℤ◌}
use Rattle.integers.proofs.Solver.{con, ◌⊕◌, ◌⊗◌, ◌⊝◌, x₀, x₁, x₂, x₃, solve}
use Rattle.integers.proofs.Order.{≤→≤ℤ, ≤ℤ→≤, <→<ℤ, <ℤ→<}
use Rattle.integers.proofs.Bounds.{pos_sub}
use Rattle.integers.proofs.Facts.{◌≼◌, known, ◌⊡◌, derive}
use Rattle.files.proofs.Refusal.{and_true}
use Rattle.files.specs.Limits.{total_limit}
use Rattle.frank_wolfe.specs.Method.{Space, Residual, Mixture, Gap}
use Rattle.frank_wolfe.specs.Theorem.{Compared}
use Rattle.frank_wolfe.specs.Vectors.{subtract, scale, weighted, sum, combination, Among}
use Rattle.frank_wolfe.proofs.Vectors.{factored, Wide, residual_is, mixture_is, compared_is, norm_weighted, length_scale, length_subtract}
use Rattle.frank_wolfe.proofs.Theorem.{frank_wolfe}
use Rattle.method.specs.declared.Test.{Test}
use Rattle.method.specs.declared.Test.TheVariants.{Former, Sharper}
use Rattle.method.specs.Problem.{Problem, weight}
use Rattle.method.specs.Iterates.{Iterate, residual, row, scores, argmin, distance, signed_gap, natural, gap, mixture_distance}
use Rattle.method.specs.Answers.{is_beyond}
use Rattle.method.specs.Minimum.{minimum}
use Rattle.method.proofs.Weights.{ScheduleFits}
use Rattle.method.proofs.Argmin.{argmin_below, among_row, least_score, minimum_least, inner_gap, maximum_by_minimum}
use Rattle.method.proofs.Entries.{Bounded, bounded_mono, bounded_subtract, bounded_scale, bounded_combination, weighted_bound, weighted_norm_bound}
use Rattle.method.proofs.Shares.{Mixed, mixed_length}

-- ---- What the proofs ask of a problem

-- some vertices, and a target, all of as many columns as it says, and shares that the theorem takes
pub record WellFormed (p : Problem) : Type 0 where
  pub some_row : 1 ≤ length p.vertices
  pub wide : Wide p.columns p.vertices
  pub target_length : length p.target ≡ p.columns
  pub schedule_fits : ScheduleFits p.schedule

-- factors of a total of 64 at most, values from -2000 to 2000
pub record InRange (p : Problem) : Type 0 where
  pub few_factors : sum p.factors ≤ 64
  pub rows_bounded : (v : List ℤ) → Among p.vertices v → Bounded 2000 v
  pub target_bounded : Bounded 2000 p.target

-- some steps, whose weights and the tolerance keep to the machine's numbers
pub record Sized (p : Problem) : Type 0 where
  pub some_steps : 1 ≤ p.steps
  pub weights : (t : ℕ) → t ≤ p.steps → weight p.schedule t ≤ total_limit
  pub most_tolerance : p.tolerance ≤ 1024000000

-- ---- Residual and gap of a point y / W

module _ {p : Problem} (h : WellFormed p) (t : ℕ) (x : Iterate) (len : length x.point ≡ p.columns) where
  abbrev fs : List ℕ
  fs = p.factors

  abbrev w : ℕ
  w = weight p.schedule t

  pub length_residual : length (residual p t x) ≡ p.columns
  unfolding residual
  length_residual = length_subtract x.point (scale w p.target) (len ∙ sym (length_scale w p.target ∙ h.target_length)) ∙ len

  pub residual_of : Residual (factored fs) x.point (pos w) p.target (residual p t x)
  unfolding residual
  residual_of = residual_is fs x.point w p.target (len ∙ sym h.target_length)

  -- G = <r, y> - W min <r, v>
  pub gap_by_least : 1 ≤ w → signed_gap p t x ≡ weighted fs (residual p t x) x.point -ℤ pos w *ℤ minimum (scores fs (residual p t x) p.vertices)
  unfolding signed_gap
  gap_by_least k = maximum_by_minimum fs (residual p t x) x.point w p.vertices k h.some_row (rw len h.wide)

  -- G = E + W (<r, u> - min <r, v>)
  pub gap_by_distance : 1 ≤ w → signed_gap p t x ≡ pos (distance p t x) +ℤ pos w *ℤ (weighted fs (residual p t x) p.target -ℤ minimum (scores fs (residual p t x) p.vertices))
  unfolding distance
  gap_by_distance k =
      let r = residual p t x in
      gap_by_least k
      ∙ solve (weighted fs r x.point ∷ pos w ∷ weighted fs r p.target ∷ minimum (scores fs r p.vertices) ∷ []) (x₀ ⊝ x₁ ⊗ x₃) (x₀ ⊝ x₁ ⊗ x₂ ⊕ x₁ ⊗ (x₂ ⊝ x₃)) tt
      ∙ ap (λ e. e +ℤ pos w *ℤ (weighted fs r p.target -ℤ minimum (scores fs r p.vertices))) (sym (norm_weighted fs r ∙ residual_of.along r))

  pub gap_over : 1 ≤ w → Gap (factored fs) (Among p.vertices) x.point (pos w) (residual p t x) (signed_gap p t x)
  gap_over k =
      record {
        over = λ v a.
            let r = residual p t x in
            rw (gap_by_least k)
            (derive (weighted fs r x.point ∷ pos w ∷ weighted fs r v ∷ minimum (scores fs r p.vertices) ∷ []) (x₀ ⊝ x₁ ⊗ x₂ ≼ x₀ ⊝ x₁ ⊗ x₃)
            (known (x₃ ≼ x₂) (minimum_least fs r a) ⊡ known (con (pos 0) ≼ x₁) (≤→≤ℤ (omega arith))) tt);
      }

-- ---- Mixtures

module _ {p : Problem} (h : WellFormed p) {t : ℕ} {x : Iterate} (k : 1 ≤ weight p.schedule t) (m : Mixed p t x) where
  abbrev S : Space
  S = factored p.factors

  pub mixture_of : Mixture S (Among p.vertices) (weight p.schedule t) x.point
  mixture_of = rw (m.point, ← m.total) (mixture_is p.factors p.columns x.shares p.vertices m.count h.wide)

  -- the gap is not below 0, so G is the gap
  pub gap_is : signed_gap p t x ≡ pos (gap p t x)
  unfolding gap natural
  gap_is = by (signed_gap p t x) ((frank_wolfe S (Among p.vertices) p.target).gap_nonnegative k mixture_of (gap_over h t x (mixed_length h.wide m) k))
    where
      by : (z : ℤ) → pos 0 ≤ℤ z → z ≡ pos (natural z)
      by (pos n) q = refl
      by (negsuc n) q = absurd q.le

  -- E is that of the shares
  pub distance_is : distance p t x ≡ mixture_distance p x.shares
  unfolding distance mixture_distance residual
  distance_is = rw (m.point, ← m.total)

  compared : (qs : List ℕ) → length qs ≡ length p.vertices →
      Compared S (Among p.vertices) p.target (sum qs) (combination p.columns qs p.vertices) (subtract (combination p.columns qs p.vertices) (scale (sum qs) p.target))
  compared qs e = compared_is p.factors p.columns p.target qs p.vertices h.target_length e h.wide

  -- E N² ≤ Q W² + c G N², for a factor c of 2 or more
  pub gap_bound : (c : ℕ) → 2 ≤ c → (qs : List ℕ) → length qs ≡ length p.vertices →
      distance p t x * (sum qs * sum qs) ≤ mixture_distance p qs * (weight p.schedule t * weight p.schedule t) + c * gap p t x * (sum qs * sum qs)
  unfolding distance mixture_distance
  gap_bound c hc qs e =
      let r = residual p t x in
      let ρ = subtract (combination p.columns qs p.vertices) (scale (sum qs) p.target) in
      let len = mixed_length h.wide m in
      le_trans
      (≤ℤ→≤ (rw (← norm_weighted p.factors r, ← norm_weighted p.factors ρ, gap_is) at
      ((frank_wolfe S (Among p.vertices) p.target).gap_bound (residual_of h t x len) (gap_over h t x len k) (compared qs e))))
      (add-le-add (le_refl _) (mul-le-mul_right (sum qs * sum qs) (mul-le-mul_right (gap p t x) hc)))

  module _ (τ : ℕ) (qs : List ℕ) (e : length qs ≡ length p.vertices) (hq : 1 ≤ sum qs) where
    abbrev r : List ℤ
    r = residual p t x

    abbrev ρ : List ℤ
    ρ = subtract (combination p.columns qs p.vertices) (scale (sum qs) p.target)

    abbrev limit : ℕ
    limit = τ * (weight p.schedule t * weight p.schedule t)

    len : length x.point ≡ p.columns
    len = mixed_length h.wide m

    by_former : limit + 2 * gap p t x < distance p t x → τ * (sum qs * sum qs) < mixture_distance p qs
    unfolding distance mixture_distance
    by_former b =
        <ℤ→<
        (rw (← norm_weighted p.factors ρ) at
        ((frank_wolfe S (Among p.vertices) p.target).beyond (pos τ) (residual_of h t x len) (gap_over h t x len k) (compared qs e) hq
        (rw (← norm_weighted p.factors r, gap_is) (<→<ℤ b))))

    by_sharper : gap p t x < distance p t x →
        limit * distance p t x < (distance p t x - gap p t x) * (distance p t x - gap p t x) → τ * (sum qs * sum qs) < mixture_distance p qs
    unfolding distance mixture_distance
    by_sharper above far =
        <ℤ→<
        (rw (← norm_weighted p.factors ρ) at
        ((frank_wolfe S (Among p.vertices) p.target).sharper_beyond (pos τ) (residual_of h t x len) (gap_over h t x len k) (compared qs e) hq
        (rw gap_is (≤→≤ℤ (omega arith))) (rw (← norm_weighted p.factors r, gap_is) (<→<ℤ above))
        (rw (← norm_weighted p.factors r, gap_is, pos_sub (distance p t x) (gap p t x) (le_of_lt above)) (<→<ℤ far))))

  -- where a test holds, every mixture's squared distance is above τ
  pub beyond_bound : (test : Test) (τ : ℕ) → is_beyond test (τ * (weight p.schedule t * weight p.schedule t)) (distance p t x) (gap p t x) ≡ true →
      (qs : List ℕ) → length qs ≡ length p.vertices → 1 ≤ sum qs → τ * (sum qs * sum qs) < mixture_distance p qs
  unfolding is_beyond
  beyond_bound Former τ b qs e hq = by_former τ qs e hq (ltb-true _ _ b)
  beyond_bound Sharper τ b qs e hq =
      let both = and_true (ltb (gap p t x) (distance p t x)) _ b in
      by_sharper τ qs e hq (ltb-true _ _ both.0) (ltb-true _ _ both.1)

-- ---- How large the numbers are

module _ {p : Problem} (f : InRange p) {t : ℕ} {x : Iterate} (m : Mixed p t x) where
  pub point_bounded : Bounded (2000 * weight p.schedule t) x.point
  point_bounded =
      bounded_mono {m = weight p.schedule t * 2000} (rw (m.point, ← m.total) (bounded_combination 2000 p.columns x.shares p.vertices f.rows_bounded)) (omega arith)

  -- no entry of y - W v, of a vector v in range, is farther from 0 than 4000 W
  pub difference_bounded : (v : List ℤ) → Bounded 2000 v → Bounded (4000 * weight p.schedule t) (subtract x.point (scale (weight p.schedule t) v))
  difference_bounded v b = bounded_mono (bounded_subtract point_bounded (bounded_scale (weight p.schedule t) b)) (omega arith)

  -- no entry of the residual is farther from 0 than 4000 W
  pub residual_bounded : Bounded (4000 * weight p.schedule t) (residual p t x)
  unfolding residual
  residual_bounded = difference_bounded p.target f.target_bounded

-- factors of a total of 64 at most
factors_most : (n a b : ℕ) → n ≤ 64 → a ≤ n * b → a ≤ 64 * b
factors_most n a b h k = le_trans k (mul-le-mul_right b h)

module _ {p : Problem} (h : WellFormed p) (f : InRange p) {t : ℕ} {x : Iterate} (m : Mixed p t x) where
  abbrev total : ℕ
  total = weight p.schedule t

  -- the inner product of the residual with a vector
  residual_product : (n : ℕ) (y : List ℤ) → Bounded n y → nat_abs (weighted p.factors (residual p t x) y) ≤ 64 * (4000 * total * n)
  residual_product n y b = factors_most _ _ _ f.few_factors (weighted_bound p.factors (4000 * total) n (residual p t x) y (residual_bounded f m) b)

  -- the score of a vector in range
  pub score_most : (v : List ℤ) → Bounded 2000 v → nat_abs (weighted p.factors (residual p t x) v) ≤ 512000000 * total
  score_most v b = le_trans (residual_product 2000 v b) (omega arith)

  pub distance_most : distance p t x ≤ 1024000000 * (total * total)
  unfolding distance
  distance_most = le_trans (factors_most _ _ _ f.few_factors (weighted_norm_bound p.factors (4000 * total) (residual p t x) (residual_bounded f m))) (omega arith)

  pub gap_most : 1 ≤ total → gap p t x ≤ 1024000000 * (total * total)
  gap_most k =
      let fs = p.factors in
      let r = residual p t x in
      let i = argmin (scores fs r p.vertices) in
      let s = row p.vertices i in
      let a : Among p.vertices s = among_row p.vertices i (argmin_below fs r p.vertices h.some_row) in
      let len = mixed_length h.wide m in
      let e : pos (gap p t x) ≡ weighted fs r (subtract x.point (scale total s)) =
      sym (gap_is h k m) ∙ gap_by_least h t x len k ∙ ap (λ q. weighted fs r x.point -ℤ pos total *ℤ q) (sym (least_score fs r p.vertices))
      ∙ sym (inner_gap fs r x.point total s (h.wide.each s a ∙ sym len)) in
      let b : nat_abs (weighted fs r (subtract x.point (scale total s))) ≤ 64 * (4000 * total * (4000 * total)) =
      residual_product (4000 * total) _ (difference_bounded f m s (f.rows_bounded s a)) in
      le_trans (rw (← ap nat_abs e) at b) (omega arith)
