-- A state that holds an iterate after at least one step gives the answer of the definitions. Assumes nothing.
use mathlib.Core.Path.{◌≡◌, ◌∙◌}
use mathlib.Core.List.{List}
use Prim.Native.Nat.{ℕ, suc, ◌≤◌}
use native.Mathlib.Omega.{arith}
use lib.IntN.{ℤ}
use Rattle.files.specs.Book.{columns, rows}
use Rattle.files.specs.Sheet.{sheet, files_refusal}
use Rattle.files.specs.Limits.{step_limit}
use Rattle.frank_wolfe.specs.Vectors.{inner, ones, squared_norm}
use Rattle.method.specs.declared.Test.TheVariants.{Sharper}
use Rattle.method.specs.Problem.{Schedule}
use Rattle.method.specs.Plain.{plain_problem}
use Rattle.method.specs.Iterates as M
use Rattle.method.specs.Iterates.{direction, residual, distance}
use Rattle.method.specs.Answers.{answer_at}
use Rattle.method.specs.Minimum.{minimum}
use Rattle.method.proofs.Schedules.{ScheduleSized}
use Rattle.method.proofs.Plain.{mixed}
use Rattle.iteration.specs.declared.State.{State}
use Rattle.iteration.specs.States.{iterate_of, Holds}
use Rattle.iteration.specs.Measures.{answer_by, Answerable}
use Rattle.iteration.proofs.Mixed.{norm_is, target_inner, mixed_answerable, mixed_answer}

module _ (b s : List ℕ) (ok : files_refusal b s ≡ 0) {a : Schedule} (S : ScheduleSized a) {t : ℕ} {x : State} (H : Holds a b s (suc t) x) (few : suc t ≤ step_limit) where
  abbrev r : List ℤ
  r = residual (plain_problem a b s) (suc t) (iterate_of a b s (suc t))

  some : 1 ≤ suc t
  some = omega arith

  distance_is : x.distance ≡ squared_norm r
  unfolding plain_problem distance
  distance_is = H.distance_is ∙ norm_is b s ok S some few (mixed b s ok S (suc t))

  target_score_is : x.target_score ≡ inner r (sheet s).target
  target_score_is = H.target_score_is ∙ target_inner b s ok S some few (mixed b s ok S (suc t))

  least_is : x.least ≡ minimum (M.scores (ones (columns b)) r (rows b))
  unfolding direction
  least_is = H.least_is

  pub answerable : Answerable x.distance x.weight x.target_score x.least s
  answerable = rw (distance_is, H.weight_is, target_score_is, least_is) (mixed_answerable b s ok S some few (mixed b s ok S (suc t)))

  pub answer_right : answer_by Sharper x.steps x.weight (sheet s).tolerance x.distance x.target_score x.least ≡ answer_at Sharper (plain_problem a b s) (suc t) (iterate_of a b s (suc t))
  answer_right = rw (H.steps_are, distance_is, H.weight_is, target_score_is, least_is) (mixed_answer b s ok S some few (mixed b s ok S (suc t)) Sharper)
