-- A problem with its steps set to k, where k is at most the steps of its run: the run takes k steps, and its iterate and answer are those of
-- the problem itself after k steps.
use mathlib.Core.Path.{◌≡◌, refl, sym, ap, ◌∙◌}
use mathlib.Core.Bool.{Bool, true, false}
use Prim.Native.Nat.{ℕ, zero, suc, ◌≤◌, ◌<◌}
use native.Mathlib.Nat.{le_trans}
use native.Mathlib.Omega.{arith}
use borrow.Author.Tests.{eqb-true, ltb-true, ltb-false}
use lib.Dec.{eqb, ltb}
use Rattle.method.specs.declared.Verdict.{Verdict}
use Rattle.method.specs.declared.Verdict.TheVariants.{Within, Beyond, Spent}
use Rattle.method.specs.declared.Test.{Test}
use Rattle.method.specs.declared.Test.TheVariants.{Sharper}
use Rattle.method.specs.declared.Answer.{Answer}
use Rattle.method.specs.Problem.{Problem}
use Rattle.method.specs.Iterates.{Iterate, start, residual, direction, pick, with_shares, step, iterate, distance, signed_gap, gap}
use Rattle.method.specs.Answers.{verdict_number, stops, answer_at, steps_used, run_iterate, run_answer}
use Rattle.method.specs.Promise.{RunRight}
use Rattle.method.proofs.Mixtures.{WellFormed, InRange, Sized}
use Rattle.method.proofs.Running.{stops_at, Stopped, stopped}
use Rattle.method.proofs.Bounds.{run_bounds}
use Rattle.method.proofs.Published.{published_run}
use Rattle.method.proofs.SmallGap.{small_gap}
use Rattle.sheet_queue.specs.Queue.{with_steps}

true_false : true ≡ false → ⊥
true_false w = let z : ◌≡◌ {A = ℕ} 0 1 = cc in omega arith

-- a step that does not stop a run is Spent
pub going_spent : (n t : ℕ) (v : Verdict) → stops n t v ≡ false → (verdict_number v ≡ 3) × ((k : ℕ) → stops k t v ≡ eqb t k)
unfolding stops verdict_number
going_spent n t Within e = absurd (true_false e)
going_spent n t (Beyond floor) e = absurd (true_false e)
going_spent n t (Spent shortfall) e = (refl, λ k. refl)

-- ---- Steps do not look at how many there may be
module _ (k : ℕ) (p : Problem) where
  same_direction : (t : ℕ) (x : Iterate) → direction (with_steps k p) t x ≡ direction p t x
  unfolding direction residual
  same_direction zero x = refl
  same_direction (suc t) x = refl

  pub same_iterate : (t : ℕ) → iterate (with_steps k p) t ≡ iterate p t
  unfolding iterate start step with_shares pick
  same_iterate zero = refl
  same_iterate (suc t) = rw (same_iterate t, same_direction t (iterate p t))

  pub same_answer_at : (test : Test) (t : ℕ) (x : Iterate) → answer_at test (with_steps k p) t x ≡ answer_at test p t x
  unfolding answer_at distance gap signed_gap residual
  same_answer_at test t x = refl

  abbrev verdict_at : (t : ℕ) → Verdict
  verdict_at t = (answer_at Sharper p t (iterate p t)).verdict

  stops_by : (t : ℕ) → stops_at (with_steps k p) t ≡ stops k t (verdict_at t)
  unfolding stops_at
  stops_by t = rw (same_iterate t, same_answer_at Sharper t (iterate p t))

  module _ (some : 1 ≤ p.steps) (least : 1 ≤ k) (most : k ≤ steps_used p) where
    own : Stopped p 0 p.steps (steps_used p)
    own = stopped p some

    cut : Stopped (with_steps k p) 0 k (steps_used (with_steps k p))
    cut = stopped (with_steps k p) least

    not_before : (t : ℕ) → 1 ≤ t → t < k → stops_at (with_steps k p) t ≡ true → ⊥
    unfolding stops_at
    not_before t l h e =
        let d = (going_spent p.steps t (verdict_at t) (own.first t (omega arith) (omega arith))).1 k in
        omega (arith, eqb-true t k (sym d ∙ sym (stops_by t) ∙ e))

    pub alone_steps : steps_used (with_steps k p) ≡ k
    alone_steps = by (ltb (steps_used (with_steps k p)) k) refl
      where
        by : (q : Bool) → ltb (steps_used (with_steps k p)) k ≡ q → steps_used (with_steps k p) ≡ k
        by true e = absurd (not_before (steps_used (with_steps k p)) (omega (arith, cut.later)) (ltb-true _ k e) cut.here)
        by false e = omega (arith, ltb-false (steps_used (with_steps k p)) k e, cut.most)

    pub alone_iterate : run_iterate (with_steps k p) ≡ iterate p k
    unfolding run_iterate
    alone_iterate = ap (iterate (with_steps k p)) alone_steps ∙ same_iterate k

    pub alone_answer : run_answer (with_steps k p) ≡ answer_at Sharper p k (iterate p k)
    unfolding run_answer
    alone_answer = rw (alone_steps, alone_iterate) (same_answer_at Sharper k (iterate p k))

    pub alone_answer_steps : (run_answer (with_steps k p)).steps ≡ k
    unfolding answer_at
    alone_answer_steps = ap (λ (z : Answer). z.steps) alone_answer

    -- a run that took all its own steps is its own, and one that was cut off is Spent
    pub alone_own : k ≡ steps_used p → run_answer (with_steps k p) ≡ run_answer p
    unfolding run_answer run_iterate
    alone_own e = alone_answer ∙ ap (λ n. answer_at Sharper p n (iterate p n)) e

    pub alone_cut : k < steps_used p → verdict_number (run_answer (with_steps k p)).verdict ≡ 3
    unfolding stops_at
    alone_cut h = rw alone_answer (going_spent p.steps k (verdict_at k) (own.first k (omega arith) h)).0

    pub own_most : steps_used p ≤ p.steps
    own_most = omega (arith, own.most)

  module _ (w : WellFormed p) (f : InRange p) (z : Sized p) (least : 1 ≤ k) (most : k ≤ p.steps) where
    well : WellFormed (with_steps k p)
    well = record { some_row = w.some_row; wide = w.wide; target_length = w.target_length; schedule_fits = w.schedule_fits }

    ranged : InRange (with_steps k p)
    ranged = record { few_factors = f.few_factors; rows_bounded = f.rows_bounded; target_bounded = f.target_bounded }

    sized : Sized (with_steps k p)
    sized = record { some_steps = least; weights = λ t h. z.weights t (le_trans h most); most_tolerance = z.most_tolerance }

    pub alone_right : RunRight (with_steps k p) (run_answer (with_steps k p)) (run_iterate (with_steps k p)).shares
    alone_right = record { bounds = run_bounds well ranged sized; published = published_run well least; small_gap = small_gap well }
