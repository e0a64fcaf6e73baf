-- The record of a sheet after a step of its run.
use mathlib.Core.Path.{◌≡◌, refl, sym, ap, ◌∙◌}
use mathlib.Core.Bool.{Bool, true, false}
use mathlib.Core.List.{List}
use Prim.Native.Nat.{ℕ, suc, ◌+◌, ◌≤◌, ◌<◌}
use native.Mathlib.Omega.{arith}
use native.Mathlib.Numerals.{add-one}
use borrow.Author.Tests.{eq-eqb, ne_eqb, ltb-true, ltb-false}
use lib.Dec.{eqb, ltb}
use lib.ListN.{length}
use Rattle.files.specs.Sheet.{sheet, files_refusal}
use Rattle.files.specs.Limits.{step_limit}
use Rattle.files.proofs.Accepted.{files_accepted}
use Rattle.method.specs.declared.Test.TheVariants.{Sharper}
use Rattle.method.specs.declared.Answer.{Answer}
use Rattle.method.specs.Problem.{Problem, fixed, call_problem, problem}
use Rattle.method.specs.Iterates.{iterate}
use Rattle.method.specs.Answers.{verdict_number, stops, answer_at, steps_used, run_answer}
use Rattle.method.proofs.Running.{stops_at, Stopped, stopped}
use Rattle.iteration.specs.declared.State.{State}
use Rattle.iteration.specs.States.{Holds}
use Rattle.iteration.specs.Measures.{answer_by, Answerable}
use Rattle.sheet_queue.specs.Queue.{record_of, with_steps}
use Rattle.sheet_queue.proofs.Alone.{alone_answer}
use Rattle.sheet_turn.specs.Turns.{plain_book, plain_sheet}
use Rattle.sheet_turn.proofs.Plain.{turn_answerable, turn_answer}

-- a step of a run stops it exactly where it is the last
stops_own : (p : Problem) → 1 ≤ p.steps → (k : ℕ) → 1 ≤ k → k ≤ steps_used p → stops p.steps k (answer_at Sharper p k (iterate p k)).verdict ≡ eqb k (steps_used p)
unfolding stops_at
stops_own p some k least most = by (ltb k (steps_used p)) refl
  where
    own : Stopped p 0 p.steps (steps_used p)
    own = stopped p some

    by : (q : Bool) → ltb k (steps_used p) ≡ q → stops p.steps k (answer_at Sharper p k (iterate p k)).verdict ≡ eqb k (steps_used p)
    by true e =
        let h : k < steps_used p = ltb-true k (steps_used p) e in
        own.first k (omega arith) h ∙ sym (ne_eqb k (steps_used p) (λ z. omega arith))
    by false e =
        let h : k ≡ steps_used p = omega (arith, ltb-false k (steps_used p) e) in
        ap (λ (n : ℕ). stops p.steps n (answer_at Sharper p n (iterate p n)).verdict) h ∙ own.here ∙ sym (eq-eqb k (steps_used p) h)

module _ (b s : List ℕ) (ok : files_refusal b s ≡ 0) (t : ℕ) (more : t < steps_used (problem b s)) where
  asked : 1 ≤ (problem b s).steps
  unfolding call_problem
  asked = (files_accepted b s ok).1.some_steps

  most_steps : steps_used (problem b s) ≤ step_limit
  unfolding call_problem
  most_steps = omega (arith, (stopped (problem b s) asked).most, (files_accepted b s ok).1.most_steps)

  pub few_steps : t < step_limit
  few_steps = omega (arith, most_steps)

  module _ {x : State} (H : Holds fixed (plain_book b s) (plain_sheet s) (t + 1) x) where
    H' : Holds fixed (plain_book b s) (plain_sheet s) (suc t) x
    H' = rw add-one at H

    pub record_answerable : Answerable x.distance x.weight x.target_score x.least s
    record_answerable = turn_answerable b s ok H' (omega (arith, few_steps))

    module _ {a : Answer} (ea : a ≡ answer_by Sharper x.steps x.weight (sheet s).tolerance x.distance x.target_score x.least) where
      answer_is : a ≡ run_answer (with_steps (suc t) (problem b s))
      answer_is = turn_answer b s ok H' (omega (arith, few_steps)) ea ∙ sym (alone_answer (suc t) (problem b s) asked (omega arith) (omega arith))

      pub record_right : {k : ℕ} → k ≡ (sheet s).steps → {d : Bool} → d ≡ stops k x.steps a.verdict → {v : ℕ} → v ≡ verdict_number a.verdict →
          record { asked = k; used = x.steps; finished = d; distance = a.distance; gap = a.gap; verdict = v; length = length s } ≡ record_of (length s) (problem b s) (t + 1)
      unfolding record_of call_problem
      record_right {k} ek {d} ed {v} ev =
          let n : x.steps ≡ suc t = H'.steps_are in
          let f : d ≡ eqb (suc t) (steps_used (problem b s)) = ed ∙ rw (ek, n, answer_is') (stops_own (problem b s) asked (suc t) (omega arith) (omega arith)) in
          rw (add-one, ek, n, f, ev, answer_is)
        where
          answer_is' : a ≡ answer_at Sharper (problem b s) (suc t) (iterate (problem b s) (suc t))
          answer_is' = turn_answer b s ok H' (omega (arith, few_steps)) ea
