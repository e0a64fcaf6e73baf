-- What specs/Bounds.antt promises of an answer and its shares, and of a run, holds for every problem that is well-formed and in range.
use mathlib.Core.Path.{◌≡◌, refl, sym, ap, ◌∙◌, subst}
use mathlib.Core.Bool.{true}
use mathlib.Core.List.{List}
use Prim.Native.Nat.{ℕ, ◌*◌, ◌≤◌}
use native.Mathlib.Nat.{le_refl, le_of_lt, lt_of_le_of_lt}
use native.Mathlib.Omega.{arith}
use lib.Dec.{lit≤}
use lib.ListN.{length}
use Rattle.frank_wolfe.specs.Vectors.{sum}
use Rattle.integers.proofs.Bounds.{pos_sub}
use Rattle.integers.proofs.Order.{≤→≤ℤ}
use Rattle.method.specs.declared.Test.{Test}
use Rattle.method.specs.declared.Test.TheVariants.{Sharper}
use Rattle.method.specs.Problem.{Problem, weight}
use Rattle.method.specs.Iterates.{Iterate, iterate, distance, gap, support}
use Rattle.method.specs.Answers.{stops, answer_at, steps_used, run_iterate, run_answer}
use Rattle.method.specs.Bounds.{mixture_iterate, answer_of, AnswerBounds, RunBounds}
use Rattle.method.proofs.Weights.{weight_positive, weight_fits}
use Rattle.method.proofs.Shares.{mixed_is, shares_mixed, iterate_mixed, iterate_support}
use Rattle.method.proofs.Mixtures.{WellFormed, InRange, Sized, gap_is, distance_is, gap_bound, beyond_bound, distance_most, gap_most}
use Rattle.method.proofs.Iterates.{step_bound, spent_bound}
use Rattle.method.proofs.Verdicts.{verdict_means, within_exactly, beyond_exactly, beyond_carries, spent_means, wherever_former, unstopped_former, stops_spent}
use Rattle.method.proofs.Running.{stops_at, stopped}
use Rattle.files.specs.Limits.{total_limit}

-- the answer of a run is that of its shares
pub run_is : {p : Problem} → WellFormed p → run_answer p ≡ answer_of Sharper p (run_iterate p).shares (run_answer p).steps
unfolding run_answer run_iterate answer_at
run_is {p} h =
    let t = steps_used p in
    unfold answer_at in ap (answer_at Sharper p t) (mixed_is (iterate_mixed p h.some_row h.wide t))

module _ {p : Problem} (h : WellFormed p) (f : InRange p) (z : Sized p) where
  -- shares, one a vertex, of the total of t steps
  pub answer_bounds : (test : Test) (shares : List ℕ) (t : ℕ) →
      length shares ≡ length p.vertices → sum shares ≡ weight p.schedule t → support shares ≤ t → 1 ≤ t → t ≤ p.steps →
      stops p.steps t (answer_of test p shares t).verdict ≡ true → AnswerBounds test p (answer_of test p shares t) shares
  unfolding answer_at
  answer_bounds test shares t one total boats some most here =
      let x = mixture_iterate p shares in
      let m = shares_mixed p t shares one total in
      let few : weight p.schedule t ≤ total_limit = z.weights t most in
      let hw : 1 ≤ weight p.schedule t = weight_positive h.schedule_fits some in
      let means = verdict_means test p.tolerance (weight p.schedule t) (distance p t x) (gap p t x) in
      record {
        share_count = one;
        total = total;
        weight = refl;
        few_boats = boats;
        some_step = some;
        most_steps = most;
        stops_here = here;
        own_distance = distance_is h hw m;
        own_gap = gap_is h hw m;
        gap_bound = λ qs e hq. gap_bound h hw m _ (lit≤ tt) qs e;
        within = within_exactly means;
        beyond = λ v qs e hq. beyond_bound h hw m test p.tolerance ((beyond_exactly means).0 v).1 qs e hq;
        beyond_tested = beyond_exactly means;
        beyond_former = λ k. (beyond_exactly means).1 (omega arith, wherever_former test (p.tolerance * (weight p.schedule t * weight p.schedule t)) (distance p t x) (gap p t x) k);
        beyond_floor = beyond_carries means;
        spent_undecided = λ v. (spent_means means v).1;
        spent_above = λ v. (spent_means means v).0;
        spent_last = λ v. stops_spent p.steps t _ v here;
        spent_shortfall = λ v. let s = spent_means means v in s.2 ∙ sym (pos_sub (distance p t x) (p.tolerance * (weight p.schedule t * weight p.schedule t)) (le_of_lt s.0));
        distance_fits = lt_of_le_of_lt (distance_most h f m) (weight_fits few (le_refl 1024000000));
        gap_fits = lt_of_le_of_lt (gap_most h f m hw) (weight_fits few (le_refl 1024000000));
        limit_fits = weight_fits few z.most_tolerance;
      }

  pub run_bounds : RunBounds p (run_answer p) (run_iterate p).shares
  unfolding run_answer run_iterate answer_at stops_at
  run_bounds =
      let t = steps_used p in
      let x = iterate p t in
      let m = iterate_mixed p h.some_row h.wide t in
      let st = stopped p z.some_steps in
      let here : stops p.steps t (answer_of Sharper p x.shares t).verdict ≡ true =
      ap (λ (y : Iterate). stops p.steps t (answer_at Sharper p t y).verdict) (sym (mixed_is m)) ∙ st.here in
      let own : AnswerBounds Sharper p (answer_at Sharper p t x) x.shares =
      subst (λ (y : Iterate). AnswerBounds Sharper p (answer_at Sharper p t y) x.shares) (sym (mixed_is m))
      (answer_bounds Sharper x.shares t m.count m.total (iterate_support p t) st.later (omega (arith, st.most)) here) in
      record {
        answer = own;
        first = λ j a k. st.first j a k;
        first_former = λ j a k. unstopped_former p.steps j p.tolerance (weight p.schedule j) (distance p j (iterate p j)) (gap p j (iterate p j)) (st.first j a k);
        every_gap = λ j a. rw (gap_is h (weight_positive h.schedule_fits a) (iterate_mixed p h.some_row h.wide j)) (≤→≤ℤ (omega arith));
        step_bound = λ qs e hq. step_bound h t qs e;
        spent = λ v qs e hq. spent_bound h t qs e p.tolerance st.later (le_of_lt (own.spent_above v));
      }
