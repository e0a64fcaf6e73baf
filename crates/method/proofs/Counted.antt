-- Schedules that agree on the steps that a run may take give the same run; a table 1, 2, 3, .. gives that of the fixed shares. Assumes nothing.
use mathlib.Core.Path.{◌≡◌, refl, sym, ap, ap₂, ◌∙◌}
use mathlib.Core.List.{List}
use Prim.Native.Nat.{ℕ, zero, suc, ◌+◌, ◌≤◌, ◌<◌}
use native.Mathlib.Omega.{arith}
use Rattle.files.specs.Sheet.{sheet}
use Rattle.method.specs.declared.Test.{Test}
use Rattle.method.specs.declared.Test.TheVariants.{Sharper}
use Rattle.method.specs.Problem.{Schedule, fixed, lent, Problem, Terms, call_steps, call_problem, share, weight}
use Rattle.method.specs.Iterates.{Iterate, start, residual, direction, pick, with_shares, step, iterate, distance, signed_gap, gap}
use Rattle.method.specs.Answers.{answer_at, steps_from, steps_used, run_iterate, run_answer}
use Rattle.method.specs.Promise.{Counts, without_table}
use Rattle.method.proofs.Weights.{weight_zero, weight_suc}
use Rattle.method.proofs.Running.{stopped}

module _ (p : Problem) (a b : Schedule) (n : ℕ) (same : (k : ℕ) → k < n → share a k ≡ share b k) where
  abbrev by : Schedule → Problem
  by c = record { columns = p.columns; vertices = p.vertices; target = p.target; factors = p.factors; schedule = c; tolerance = p.tolerance; steps = n }

  pub weight_same : (t : ℕ) → t ≤ n → weight a t ≡ weight b t
  weight_same zero h = weight_zero a ∙ sym (weight_zero b)
  weight_same (suc t) h = weight_suc a t ∙ ap₂ ◌+◌ (weight_same t (omega arith)) (same t h) ∙ sym (weight_suc b t)

  direction_same : (t : ℕ) → t ≤ n → (x : Iterate) → direction (by a) t x ≡ direction (by b) t x
  unfolding direction residual
  direction_same zero h x = refl
  direction_same (suc t) h x = rw (weight_same (suc t) h)

  step_same : (t : ℕ) → t < n → (x : Iterate) → step (by a) t (direction (by a) t x) x ≡ step (by b) t (direction (by b) t x) x
  unfolding step with_shares pick
  step_same t h x = rw (direction_same t (omega arith) x, same t h)

  iterate_same : (t : ℕ) → t ≤ n → iterate (by a) t ≡ iterate (by b) t
  unfolding iterate start
  iterate_same zero h = refl
  iterate_same (suc t) h = step_same t h (iterate (by a) t) ∙ ap (λ x. step (by b) t (direction (by b) t x) x) (iterate_same t (omega arith))

  pub answer_same : (test : Test) (t : ℕ) → t ≤ n → (x : Iterate) → answer_at test (by a) t x ≡ answer_at test (by b) t x
  unfolding answer_at distance gap signed_gap residual
  answer_same test t h x = rw (weight_same t h)

  steps_same : (left t : ℕ) → left + t ≤ n → (x : Iterate) → steps_from left t (by a) x ≡ steps_from left t (by b) x
  unfolding steps_from
  steps_same zero t h x = refl
  steps_same (suc left) t h x =
      rw (step_same t (omega arith) x, answer_same Sharper (suc t) (omega arith) (step (by b) t (direction (by b) t x) x), steps_same left (suc t) (omega arith) (step (by b) t (direction (by b) t x) x))

  module _ (some : 1 ≤ n) where
    used_most : steps_used (by a) ≤ n
    used_most = omega (arith, (stopped (by a) some).most)

    used_same : steps_used (by a) ≡ steps_used (by b)
    unfolding steps_used start
    used_same = steps_same n 0 (omega arith) (start (by a))

    pub run_iterate_same : run_iterate (by a) ≡ run_iterate (by b)
    unfolding run_iterate
    run_iterate_same = iterate_same (steps_used (by a)) used_most ∙ ap (iterate (by b)) used_same

    pub run_answer_same : run_answer (by a) ≡ run_answer (by b)
    unfolding run_answer
    run_answer_same = answer_same Sharper (steps_used (by a)) used_most (run_iterate (by a)) ∙ ap₂ (answer_at Sharper (by b)) used_same run_iterate_same

module _ (m : Terms) (b s : List ℕ) (c : Counts m s) where
  -- the table is long enough for the sheet's steps
  pub counted_steps : call_steps m s ≡ (sheet s).steps
  counted_steps = rw c.is_lent (omega (arith, c.long))

  -- so far its totals are those of the fixed shares, and so are the answers of any point
  pub counted_weight : (t : ℕ) → t ≤ (sheet s).steps → weight m.schedule t ≡ weight fixed t
  unfolding share
  counted_weight t h = rw c.is_lent (weight_same (call_problem (without_table m) b s) (lent c.table) fixed (sheet s).steps c.counts t h)

  pub counted_answer : (test : Test) (t : ℕ) → t ≤ (sheet s).steps → (x : Iterate) → answer_at test (call_problem m b s) t x ≡ answer_at test (call_problem (without_table m) b s) t x
  unfolding share call_problem
  counted_answer test t h x = rw (counted_steps, c.is_lent) (answer_same (call_problem (without_table m) b s) (lent c.table) fixed (sheet s).steps c.counts test t h x)

  -- and the run
  pub counted_same : 1 ≤ (sheet s).steps →
      (run_answer (call_problem m b s) ≡ run_answer (call_problem (without_table m) b s)) × (run_iterate (call_problem m b s) ≡ run_iterate (call_problem (without_table m) b s))
  unfolding share call_problem
  counted_same some =
      rw (counted_steps, c.is_lent)
      (run_answer_same (call_problem (without_table m) b s) (lent c.table) fixed (sheet s).steps c.counts some, run_iterate_same (call_problem (without_table m) b s) (lent c.table) fixed (sheet s).steps c.counts some)
