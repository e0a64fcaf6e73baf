-- A run, state by state: it goes on until a step stops it, and then its answer and iterate are those of the definitions. Assumes nothing.
use mathlib.Core.Path.{◌≡◌, refl, sym, ap, ◌∙◌, subst}
use mathlib.Core.Bool.{Bool, true, false}
use mathlib.Core.List.{List}
use Prim.Native.Nat.{ℕ, suc, ◌+◌, ◌≤◌, ◌<◌}
use native.Mathlib.Nat.{zero-add}
use native.Mathlib.Omega.{arith}
use native.Mathlib.Numerals.{add-one}
use borrow.Author.Tests.{ltb-true, ltb-false}
use lib.Dec.{ltb}
use Rattle.files.specs.Sheet.{sheet, files_refusal}
use Rattle.files.specs.Limits.{step_limit}
use Rattle.method.specs.Problem.{Schedule, share, allowed_steps}
use Rattle.method.specs.Plain.{plain_problem}
use Rattle.method.specs.Iterates.{iterate}
use Rattle.method.specs.declared.Test.TheVariants.{Sharper}
use Rattle.method.specs.Answers.{answer_at, stops, run_answer, run_iterate}
use Rattle.method.specs.declared.Answer.{Answer}
use Rattle.method.specs.declared.Verdict.{Verdict}
use Rattle.method.proofs.Weights.{weight_zero, weight_suc}
use Rattle.method.proofs.Schedules.{ScheduleSized}
use Rattle.method.proofs.Running.{Running, running_start, running_more, running_done, finished_answer, finished_iterate, stops_last}
use Rattle.iteration.specs.declared.State.{State}
use Rattle.iteration.specs.States.{iterate_of, Holds}
use Rattle.iteration.specs.Measures.{answer_by, Answerable}
use Rattle.iteration.proofs.States.{sheet_fits}
use Rattle.iteration.proofs.Answering.{answerable, answer_right}
use Rattle.run_loop.specs.Runs.{Going}

-- a step that does not stop a run is not its last
not_last : (n t : ℕ) (v : Verdict) → t ≤ n → stops n t v ≡ false → t < n
not_last n t v h e = go (ltb t n) refl
  where
    go : (b : Bool) → ltb t n ≡ b → t < n
    go true f = ltb-true t n f
    go false f =
        let p : t ≡ n = omega (arith, ltb-false t n f) in
        let q : stops n n v ≡ false = rw p at e in
        absurd (true_false (sym (stops_last n v) ∙ q))
      where
        true_false : true ≡ false → ⊥
        true_false w = let z : ◌≡◌ {A = ℕ} 0 1 = cc in omega arith

module _ (b s : List ℕ) (ok : files_refusal b s ≡ 0) {a : Schedule} (S : ScheduleSized a) where
  pub going_start : {x : State} → Holds a b s 0 x → Going a b s x
  unfolding plain_problem iterate
  going_start {x} H =
      rw_steps H.steps_are
    where
      rw_steps : x.steps ≡ 0 → Going a b s x
      rw_steps e =
          record {
            held = subst (λ n. Holds a b s n x) (sym e) H;
            left = omega (arith, S.some_steps (sheet s).steps (sheet_fits b s ok).some_steps);
            undecided = rw e (running_start (plain_problem a b s)).decides;
          }

  -- the first step gives what W is after it
  pub first_weight : {z : Answer} → z ≡ answer_at Sharper (plain_problem a b s) 1 (iterate_of a b s 1) → z.weight ≡ share a 0
  unfolding plain_problem answer_at
  first_weight ez = ap (λ (w : Answer). w.weight) ez ∙ weight_suc a 0 ∙ rw (weight_zero a) (zero-add (share a 0))

  -- a run that its first step stops
  pub first_done : {z : Answer} → z ≡ answer_at Sharper (plain_problem a b s) 1 (iterate_of a b s 1) → {k : ℕ} → k ≡ allowed_steps a (sheet s).steps → {d : Bool} → d ≡ stops k 1 z.verdict → d ≡ true →
      (z ≡ run_answer (plain_problem a b s)) × ((iterate_of a b s 1).shares ≡ (run_iterate (plain_problem a b s)).shares)
  unfolding plain_problem iterate
  first_done ea ek ed f =
      let v : stops (allowed_steps a (sheet s).steps) 1 (answer_at Sharper (plain_problem a b s) 1 (iterate_of a b s 1)).verdict ≡ true = rw (ek, ea) at (sym ed ∙ f) in
      let d = running_done (running_start (plain_problem a b s)) (omega (arith, S.some_steps (sheet s).steps (sheet_fits b s ok).some_steps)) v in
      (ea ∙ finished_answer d, ap (λ w. w.shares) (finished_iterate d))

  module _ {x : State} (g : Going a b s x) {y : State} (H : Holds a b s (x.steps + 1) y) where
    running : Running (plain_problem a b s) x.steps (iterate_of a b s x.steps)
    unfolding plain_problem
    running = record { within = omega (arith, g.left); iterated = refl; decides = g.undecided }

    next_held : Holds a b s (suc x.steps) y
    next_held = rw add-one at H

    next_few : suc x.steps ≤ step_limit
    next_few = omega (arith, g.left, S.most_steps (sheet s).steps, (sheet_fits b s ok).most_steps)

    pub next_answerable : Answerable y.distance y.weight y.target_score y.least s
    next_answerable = answerable b s ok S next_held next_few

    module _ {z : Answer} (ea : z ≡ answer_by Sharper y.steps y.weight (sheet s).tolerance y.distance y.target_score y.least)
        {k : ℕ} (ek : k ≡ allowed_steps a (sheet s).steps) {d : Bool} (ed : d ≡ stops k y.steps z.verdict) where
      answer_is : z ≡ answer_at Sharper (plain_problem a b s) (suc x.steps) (iterate_of a b s (suc x.steps))
      answer_is = ea ∙ answer_right b s ok S next_held next_few

      stopped_is : d ≡ stops (allowed_steps a (sheet s).steps) (suc x.steps) (answer_at Sharper (plain_problem a b s) (suc x.steps) (iterate_of a b s (suc x.steps))).verdict
      stopped_is = ed ∙ rw (ek, next_held.steps_are, answer_is)

      pub going_more : d ≡ false → Going a b s y
      unfolding plain_problem iterate
      going_more f =
          let p : y.steps ≡ suc x.steps = next_held.steps_are in
          record {
            held = subst (λ n. Holds a b s n y) (sym p) next_held;
            left = rw p (not_last (allowed_steps a (sheet s).steps) (suc x.steps) _ g.left (sym stopped_is ∙ f));
            undecided = rw p (running_more running g.left (sym stopped_is ∙ f)).decides;
          }

      pub going_done : d ≡ true → (z ≡ run_answer (plain_problem a b s)) × (((iterate_of a b s y.steps).shares ≡ (run_iterate (plain_problem a b s)).shares) × (y.steps ≡ (run_answer (plain_problem a b s)).steps))
      unfolding plain_problem iterate answer_at
      going_done f =
          let d = running_done running g.left (sym stopped_is ∙ f) in
          (answer_is ∙ finished_answer d, (rw next_held.steps_are (ap (λ w. w.shares) (finished_iterate d)), next_held.steps_are ∙ ap (λ (w : Answer). w.steps) (finished_answer d)))
