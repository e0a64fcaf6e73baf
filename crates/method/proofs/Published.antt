-- The method in whole numbers is the published one: after t ≥ 1 steps the shares, the point, the distance, the gap and the verdict
-- are those of the published iterate. Assumes nothing.
use mathlib.Core.Path.{◌≡◌, refl, sym, ap, ap₂, ◌∙◌, subst}
use mathlib.Core.Logic.{◌↔◌}
use mathlib.Core.Bool.{Bool, true, false, ◌&&◌}
use borrow.Author.Tests.{leb-true, leb-false, ltb-true, lt-ltb}
use mathlib.Core.List.{List, [], ◌∷◌}
use Prim.Native.Nat.{ℕ, zero, suc, ◌+◌, ◌*◌, ◌-◌, ◌≤◌, ◌<◌}
use native.Mathlib.Omega.{arith}
use native.Mathlib.Nat.{zero-add, one-mul, one-le-mul, le_of_lt}
use lib.Dec.{leb, ltb, ltb→lt}
use lib.IntN.{ℤ, pos, ◌-ℤ◌, ◌*ℤ◌, *ℤ_comm}
use lib.ListN.{length, get_or, set, replicate, length-replicate}
use Rattle.integers.proofs.Solver.{con, ◌⊕◌, ◌⊗◌, x₀, x₁, x₂, solve}
use Rattle.integers.proofs.Bounds.{pos_sub}
use Rattle.files.proofs.Refusal.{and_true}
use Rattle.frank_wolfe.specs.Vectors.{add, scale}
use Rattle.frank_wolfe.proofs.Vectors.{norm_weighted, scale_one}
use Rattle.method.specs.Problem.{Problem, share, weight}
use Rattle.method.specs.Iterates.{start, residual, row, direction, active_argmin, pick, with_shares, step, iterate, distance, signed_gap, gap}
use Rattle.method.specs.declared.Verdict.{Verdict}
use Rattle.method.specs.declared.Verdict.TheVariants.{Within, Beyond, Spent}
use Rattle.method.specs.declared.Test.TheVariants.{Sharper}
use Rattle.method.specs.Answers.{is_beyond, verdict, verdict_number, verdict_carries, stops, answer_at, steps_used, run_iterate, run_answer}
use Rattle.method.specs.Fractions.{Fraction, integer, IsRatio, ◌-ℚ◌, ◌*ℚ◌, lt_q, ◌≤ℚ◌, ◌<ℚ◌, fractions}
use Rattle.method.specs.Published.{unit_vector, linear_form, active_minimizer, gradient, step_size, move, minimizer, published_iterate, published_pick, published_distance, published_gap, published_floor}
use Rattle.method.specs.PublishedRun.{PublishedBeyond, PublishedStep, PublishedRun}
use Rattle.method.proofs.Weights.{weight_zero, weight_suc, weight_positive}
use Rattle.method.proofs.Argmin.{length_scores, among_row}
use Rattle.method.proofs.Picks.{active_none}
use Rattle.method.proofs.Shares.{Mixed, mixed_is, iterate_mixed}
use Rattle.method.proofs.Mixtures.{WellFormed, gap_is}
use Rattle.method.proofs.Verdicts.{Means, verdict_means, within_exactly, beyond_exactly, beyond_carries, spent_means}
use Rattle.method.proofs.Running.{stops_at, Stopped, stopped}
use Rattle.method.proofs.Fractions.{one, integer_value, subtract_value, multiply_value, lt_value, le_exactly, same_value}
use Rattle.method.proofs.Numerators.{integer_over, integers, Over, over_at, over_fractions, over_difference, over_inner, over_linear_form, over_gap_terms, over_argmin, over_active, first_active, over_greatest, step_ratio, over_step, over_first}

-- ---- Shares as integers

integers_at : (qs : List ℕ) (i : ℕ) → get_or (integers qs) i (pos 0) ≡ pos (get_or qs i 0)
unfolding integers
integers_at [] i = refl
integers_at (q ∷ qs) zero = refl
integers_at (q ∷ qs) (suc i) = integers_at qs i

integers_zero : (n : ℕ) → integers (replicate n 0) ≡ replicate n (pos 0)
unfolding integers
integers_zero zero = refl
integers_zero (suc n) = ap (λ l. pos 0 ∷ l) (integers_zero n)

unitℤ : (n i : ℕ) → List ℤ
unitℤ zero i = []
unitℤ (suc n) zero = pos 1 ∷ replicate n (pos 0)
unitℤ (suc n) (suc i) = pos 0 ∷ unitℤ n i

fractions_zero : (n : ℕ) → replicate n (integer (pos 0)) ≡ fractions (replicate n (pos 0))
unfolding fractions
fractions_zero zero = refl
fractions_zero (suc n) = ap (λ l. integer (pos 0) ∷ l) (fractions_zero n)

unit_is : (n i : ℕ) → unit_vector n i ≡ fractions (unitℤ n i)
unfolding unit_vector unitℤ fractions
unit_is zero i = refl
unit_is (suc n) zero = ap (λ l. integer (pos 1) ∷ l) (fractions_zero n)
unit_is (suc n) (suc i) = ap (λ l. integer (pos 0) ∷ l) (unit_is n i)

length_unit : (n i : ℕ) → length (unit_vector n i) ≡ n
unfolding unit_vector
length_unit zero i = refl
length_unit (suc n) zero = ap suc (length-replicate n (integer (pos 0)))
length_unit (suc n) (suc i) = ap suc (length_unit n i)

length_fractions : (v : List ℤ) → length (fractions v) ≡ length v
unfolding fractions
length_fractions [] = refl
length_fractions (a ∷ v) = ap suc (length_fractions v)

shares_same : (k : ℕ) (qs : List ℕ) → add (integers qs) (scale k (replicate (length qs) (pos 0))) ≡ integers qs
unfolding integers add scale
shares_same k [] = refl
shares_same k (q ∷ qs) = ap₂ (λ a l. a ∷ l) (solve (pos q ∷ pos k ∷ []) (x₀ ⊕ x₁ ⊗ con (pos 0)) x₀ tt) (shares_same k qs)

-- k shares more at i
shares_step : (k : ℕ) (qs : List ℕ) (i : ℕ) → add (integers qs) (scale k (unitℤ (length qs) i)) ≡ integers (set qs i (get_or qs i 0 + k))
unfolding integers add scale unitℤ
shares_step k [] i = refl
shares_step k (q ∷ qs) zero = ap₂ (λ a l. a ∷ l) (solve (pos q ∷ pos k ∷ []) (x₀ ⊕ x₁ ⊗ one) (x₀ ⊕ x₁) tt) (shares_same k qs)
shares_step k (q ∷ qs) (suc i) = ap₂ (λ a l. a ∷ l) (solve (pos q ∷ pos k ∷ []) (x₀ ⊕ x₁ ⊗ con (pos 0)) x₀ tt) (shares_step k qs i)

over_by : {w v : ℕ} {x x' : List Fraction} {y y' : List ℤ} → Over w x y → w ≡ v → x ≡ x' → y ≡ y' → Over v x' y'
over_by {w} {v} {x} {x'} {y} {y'} o e f g = subst (λ y. Over v x' y) g (subst (λ x. Over v x y) f (subst (λ w. Over w x y) e o))

-- ---- The iterates

module _ {p : Problem} (wf : WellFormed p) where
  -- W after t + 1 steps
  abbrev w : ℕ → ℕ
  w t = weight p.schedule (suc t)

  -- after t + 1 steps
  record Same (t : ℕ) : Type 0 where
    shares : Over (weight p.schedule (suc t)) (published_iterate p (suc t)).weights (integers (iterate p (suc t)).shares)
    point : Over (weight p.schedule (suc t)) (published_iterate p (suc t)).point (iterate p (suc t)).point

  above_zero : (t : ℕ) → 1 ≤ weight p.schedule (suc t)
  above_zero t = weight_positive wf.schedule_fits (omega arith)

  mixed : (t : ℕ) → Mixed p t (iterate p t)
  mixed t = iterate_mixed p wf.some_row wf.wide t

  over_residual : (t : ℕ) → Same t → Over (w t) (gradient p.target (published_iterate p (suc t)).point) (residual p (suc t) (iterate p (suc t)))
  unfolding gradient residual
  over_residual t s = over_difference s.point p.target

  -- before the first step nobody holds shares and the published weight is all at the first vertex: both take the lowest-numbered
  pick_first : published_pick p 0 ≡ pick p (direction p 0 (iterate p 0)) (iterate p 0)
  unfolding published_pick minimizer gradient published_iterate direction row pick active_argmin iterate start
  pick_first =
      first_active (length p.vertices) _
      ∙ over_argmin (over_linear_form p.factors (omega arith) (rw scale_one at (over_difference (over_fractions (get_or p.vertices 0 [])) p.target)) p.vertices)
      ∙ sym (active_none 0 _ _ (length p.vertices) _)

  pick_later : (t : ℕ) → Same t → published_pick p (suc t) ≡ pick p (direction p (suc t) (iterate p (suc t))) (iterate p (suc t))
  unfolding published_pick minimizer direction pick active_argmin
  pick_later t s =
      let o = over_linear_form p.factors (above_zero t) (over_residual t s) p.vertices in
      let z = published_iterate p (suc t) in
      let xs = linear_form p.factors (gradient p.target z.point) p.vertices in
      ap (λ k. active_minimizer 0 xs k z.weights xs) (over_argmin o)
      ∙ over_active 0 _ (iterate p (suc t)).shares (above_zero t) (rw (length_scores p.factors) wf.some_row) o o s.shares

  first_share : IsRatio (step_size p.schedule 0) (pos (share p.schedule 0)) (share p.schedule 0)
  first_share = rw (weight_suc p.schedule 0, weight_zero p.schedule, zero-add) at (step_ratio p.schedule 0 (above_zero 0))

  first_weight : share p.schedule 0 ≡ weight p.schedule 1
  first_weight = sym (weight_suc p.schedule 0 ∙ rw (weight_zero p.schedule) (zero-add (share p.schedule 0)))

  same_first : Same 0
  unfolding published_iterate published_pick iterate step with_shares start row
  same_first =
      record {
        shares =
            over_by (over_first k first_share (unit_vector n 0) (unitℤ n i)) first_weight
            (ap (λ v. move (step_size p.schedule 0) (unit_vector n 0) v) (sym (unit_is n i) ∙ ap (unit_vector n) (sym pick_first)))
            (ap₂ (λ l m. add (replicate l (pos 0)) (scale k (unitℤ m i))) (length_unit n 0) (sym (length-replicate n 0))
            ∙ ap (λ l. add l (scale k (unitℤ (length none_yet) i))) (sym (integers_zero n)) ∙ shares_step k none_yet i);
        point =
            over_by (over_first k first_share (fractions (get_or p.vertices 0 [])) (get_or p.vertices i [])) first_weight
            (ap (λ j. move (step_size p.schedule 0) (fractions (get_or p.vertices 0 [])) (fractions (get_or p.vertices j []))) (sym pick_first))
            (ap (λ n. add (replicate n (pos 0)) (scale k (get_or p.vertices i [])))
            (length_fractions (get_or p.vertices 0 []) ∙ wf.wide.each (row p.vertices 0) (among_row p.vertices 0 wf.some_row)));
      }
    where
      n : ℕ
      n = length p.vertices

      k : ℕ
      k = share p.schedule 0

      i : ℕ
      i = pick p (direction p 0 (start p)) (start p)

      none_yet : List ℕ
      none_yet = replicate (length p.vertices) 0

  same_later : (t : ℕ) → Same t → Same (suc t)
  unfolding published_iterate published_pick iterate step with_shares row
  same_later t s =
      let k = share p.schedule (suc t) in
      let n = length p.vertices in
      let i = pick p (direction p (suc t) (iterate p (suc t))) (iterate p (suc t)) in
      let qs = (iterate p (suc t)).shares in
      let z = published_iterate p (suc t) in
      let g : IsRatio (step_size p.schedule (suc t)) (pos k) (weight p.schedule (suc t) + k) =
      rw (weight_suc p.schedule (suc t)) at (step_ratio p.schedule (suc t) (above_zero (suc t))) in
      record {
        shares =
            over_by (over_step k g s.shares (unitℤ n i)) (sym (weight_suc p.schedule (suc t)))
            (ap (λ v. move (step_size p.schedule (suc t)) z.weights v) (sym (unit_is n i) ∙ ap (unit_vector n) (sym (pick_later t s))))
            (ap (λ l. add (integers qs) (scale k (unitℤ l i))) (sym (mixed (suc t)).count) ∙ shares_step k qs i);
        point =
            over_by (over_step k g s.point (get_or p.vertices i [])) (sym (weight_suc p.schedule (suc t)))
            (ap (λ j. move (step_size p.schedule (suc t)) z.point (fractions (get_or p.vertices j []))) (sym (pick_later t s)))
            refl;
      }

  same : (t : ℕ) → Same t
  same zero = same_first
  same (suc t) = same_later t (same t)

  pub same_pick : (k : ℕ) → published_pick p k ≡ pick p (direction p k (iterate p k)) (iterate p k)
  same_pick zero = pick_first
  same_pick (suc k) = pick_later k (same k)

  -- E / W²
  distance_value : (t : ℕ) → IsRatio (published_distance p (suc t)) (pos (distance p (suc t) (iterate p (suc t)))) (w t * w t)
  unfolding published_distance distance
  distance_value t = rw norm_weighted (over_inner p.factors (above_zero t) (above_zero t) (over_residual t (same t)) (over_residual t (same t)))

  -- G / W²
  gap_value : (t : ℕ) → IsRatio (published_gap p (suc t)) (pos (gap p (suc t) (iterate p (suc t)))) (w t * w t)
  unfolding published_gap signed_gap
  gap_value t =
      rw (← gap_is wf (above_zero t) (mixed (suc t)))
      (over_greatest (one-le-mul (above_zero t) (above_zero t)) (over_gap_terms p.factors (above_zero t) (over_residual t (same t)) (same t).point p.vertices))

-- ---- The verdict

module _ {d g : Fraction} (tolerance w : ℕ) {e f : ℕ} (hd : IsRatio d (pos e) (w * w)) (hg : IsRatio g (pos f) (w * w)) where
  means : Means Sharper (tolerance * (w * w)) e f (verdict Sharper tolerance w e f)
  means = verdict_means Sharper tolerance w e f

  tolerance_value : IsRatio (integer (pos tolerance)) (pos (tolerance * (w * w))) (w * w)
  tolerance_value = rw (*ℤ_comm (pos tolerance) (pos (w * w))) (integer_over (pos tolerance) hd.above_zero)

  floor_value : IsRatio (d -ℚ integer (pos 2) *ℚ g) (pos e -ℤ pos (2 * f)) (w * w)
  floor_value = subtract_value hd (rw one-mul at (multiply_value (integer_value (pos 2)) hg))

  at_most : (d ≤ℚ integer (pos tolerance)) ↔ (e ≤ tolerance * (w * w))
  at_most = le_exactly hd tolerance_value

  within_value : (verdict_number (verdict Sharper tolerance w e f) ≡ 1) ↔ (d ≤ℚ integer (pos tolerance))
  within_value = (λ q. at_most.1 ((within_exactly means).0 q), λ h. (within_exactly means).1 (at_most.0 h))

  -- (d - g)², and the tolerance times d, over w² w²
  square_value : IsRatio ((d -ℚ g) *ℚ (d -ℚ g)) ((pos e -ℤ pos f) *ℤ (pos e -ℤ pos f)) (w * w * (w * w))
  square_value = multiply_value (subtract_value hd hg) (subtract_value hd hg)

  product_value : IsRatio (integer (pos tolerance) *ℚ d) (pos (tolerance * (w * w) * e)) (w * w * (w * w))
  product_value =
      same_value (multiply_value (integer_value (pos tolerance)) hd) (one-le-mul hd.above_zero hd.above_zero)
      (solve (pos tolerance ∷ pos e ∷ pos w ∷ []) (x₀ ⊗ x₁ ⊗ (x₂ ⊗ x₂ ⊗ (x₂ ⊗ x₂))) (x₀ ⊗ (x₂ ⊗ x₂) ⊗ x₁ ⊗ (con (pos 1) ⊗ (x₂ ⊗ x₂))) tt)

  gap_below : lt_q g d ≡ ltb f e
  gap_below = lt_value hg hd

  square_above : f < e → lt_q (integer (pos tolerance) *ℚ d) ((d -ℚ g) *ℚ (d -ℚ g)) ≡ ltb (tolerance * (w * w) * e) ((e - f) * (e - f))
  square_above k = lt_value product_value (rw (pos_sub e f (le_of_lt k)) at square_value)

  not_within : ¬ (d ≤ℚ integer (pos tolerance)) → tolerance * (w * w) < e
  not_within n = by (leb e (tolerance * (w * w))) refl
    where
      by : (t : Bool) → leb e (tolerance * (w * w)) ≡ t → tolerance * (w * w) < e
      by true q = absurd (n (at_most.1 (leb-true e (tolerance * (w * w)) q)))
      by false q = leb-false e (tolerance * (w * w)) q

  beyond_value : (verdict_number (verdict Sharper tolerance w e f) ≡ 2)
      ↔ ((¬ (d ≤ℚ integer (pos tolerance))) × (g <ℚ d) × (integer (pos tolerance) *ℚ d <ℚ (d -ℚ g) *ℚ (d -ℚ g)))
  unfolding is_beyond
  beyond_value = (
    λ q.
        let b = (beyond_exactly means).0 q in
        let both = and_true (ltb f e) (ltb (tolerance * (w * w) * e) ((e - f) * (e - f))) b.1 in (
          λ h. omega (arith, b.0, at_most.0 h),
          record { lt = rw (gap_below ∙ both.0) tt },
          record { lt = rw (square_above (ltb-true f e both.0) ∙ both.1) tt },
        ),
    λ h.
        let above : f < e = ltb→lt f e (rw gap_below at h.1.lt) in
        let far : tolerance * (w * w) * e < (e - f) * (e - f) = ltb→lt (tolerance * (w * w) * e) ((e - f) * (e - f)) (rw (square_above above) at h.2.lt) in
        (beyond_exactly means).1 (not_within h.0, ap₂ (λ s t. s && t) (lt-ltb f e above) (lt-ltb (tolerance * (w * w) * e) ((e - f) * (e - f)) far)),
  )

  floor_carried : verdict_number (verdict Sharper tolerance w e f) ≡ 2 → IsRatio (d -ℚ integer (pos 2) *ℚ g) (verdict_carries (verdict Sharper tolerance w e f)) (w * w)
  floor_carried q = rw (beyond_carries means q) floor_value

  shortfall_carried : verdict_number (verdict Sharper tolerance w e f) ≡ 3 → IsRatio (d -ℚ integer (pos tolerance)) (verdict_carries (verdict Sharper tolerance w e f)) (w * w)
  shortfall_carried q =
      let n = spent_means means q in
      rw n.2 (rw (pos_sub e (tolerance * (w * w)) (le_of_lt n.0)) at (subtract_value hd tolerance_value))

-- ---- The theorem

-- after any number of steps from 1 on
pub is_published : {p : Problem} → WellFormed p → (t : ℕ) → 1 ≤ t → PublishedStep p t
unfolding answer_at published_floor
is_published wf zero h = absurd (omega arith)
is_published {p} wf (suc t) h =
    let d = distance_value wf t in
    let g = gap_value wf t in
    record {
      same_pick = λ k q. same_pick wf k;
      weights = λ i. rw integers_at at (over_at (above_zero wf t) (same wf t).shares i);
      point = over_at (above_zero wf t) (same wf t).point;
      distance = d;
      gap = g;
      within = within_value p.tolerance (weight p.schedule (suc t)) d g;
      beyond =
          let b = beyond_value p.tolerance (weight p.schedule (suc t)) d g in
          (λ q. ((b.0 q).0, record { above = (b.0 q).1; far = (b.0 q).2 }), λ h. b.1 (h.0, h.1.above, h.1.far));
      floor = floor_carried p.tolerance (weight p.schedule (suc t)) d g;
      shortfall = shortfall_carried p.tolerance (weight p.schedule (suc t)) d g;
    }

-- a step that does not stop a run has the verdict Spent
unstopped : (n t : ℕ) (v : Verdict) → stops n t v ≡ false → verdict_number v ≡ 3
unfolding stops verdict_number
unstopped n t Within e = absurd (let z : ◌≡◌ {A = ℕ} 0 1 = cc in omega arith)
unstopped n t (Beyond floor) e = absurd (let z : ◌≡◌ {A = ℕ} 0 1 = cc in omega arith)
unstopped n t (Spent shortfall) e = refl

module _ {p : Problem} (wf : WellFormed p) (some : 1 ≤ p.steps) where
  last : ℕ
  last = steps_used p

  stopped_there : Stopped p 0 p.steps last
  unfolding last
  stopped_there = stopped p some

  each_step : (k : ℕ) → 1 ≤ k → PublishedStep p k
  each_step = is_published wf

  spent_before : (k : ℕ) → 1 ≤ k → k < last → verdict_number (answer_at Sharper p k (iterate p k)).verdict ≡ 3
  unfolding stops_at
  spent_before k h q = unstopped p.steps k _ (stopped_there.first k h q)

  none_within : (k : ℕ) → 1 ≤ k → k < last → ¬ (published_distance p k ≤ℚ integer (pos p.tolerance))
  unfolding answer_at
  none_within k h q w = omega (arith, (each_step k h).within.1 w, spent_before k h q)

  none_beyond : (k : ℕ) → 1 ≤ k → k < last → ¬ (PublishedBeyond p k)
  unfolding answer_at
  none_beyond k h q w = omega (arith, (each_step k h).beyond.1 (none_within k h q, w), spent_before k h q)

  pub published_run : PublishedRun p (run_answer p) (run_iterate p).shares
  unfolding run_answer run_iterate answer_at last
  published_run =
      record {
        each_step = each_step;
        last_step = rw (← mixed_is (iterate_mixed p wf.some_row wf.wide last)) (each_step last stopped_there.later);
        none_within = none_within;
        none_beyond = none_beyond;
      }
