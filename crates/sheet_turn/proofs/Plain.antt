-- The files that the steps of a sheet are taken on have the iterates and answers of its problem.
use mathlib.Core.Path.{◌≡◌, refl, sym, ap, ◌∙◌, subst}
use mathlib.Core.Bool.{Bool, true, false, cond}
use mathlib.Core.List.{List, ◌++◌}
use Prim.Native.Nat.{ℕ, suc, ◌≤◌}
use lib.ListN.{drop}
use lib.IntN.{ℤ}
use Rattle.files.specs.Limits.{step_limit}
use Rattle.files.proofs.Accepted.{files_accepted}
use Rattle.files.specs.Book.{boats}
use Rattle.files.specs.Sheet.{sheet, files_refusal}
use Rattle.factors.specs.Factors.{all_ones}
use Rattle.method.specs.declared.Test.TheVariants.{Sharper}
use Rattle.method.specs.Problem.{Problem, fixed, plain_terms, call_problem, problem}
use Rattle.method.specs.Plain.{plain_problem}
use Rattle.method.specs.Iterates.{iterate}
use Rattle.method.specs.Answers.{answer_at}
use Rattle.method.proofs.Schedules.{fixed_sized}
use Rattle.repeated_columns.specs.Repeating.{plain_of}
use Rattle.repeated_columns.proofs.Repeating.{plain_answer_at}
use Rattle.derived_files.specs.Accepted.{twin_book, twin_sheet}
use Rattle.factored_run.proofs.Factored.{plain_is, twin, same}
use Rattle.method.specs.declared.Answer.{Answer}
use Rattle.iteration.specs.declared.State.{State}
use Rattle.iteration.specs.States.{iterate_of, Holds}
use Rattle.iteration.specs.Measures.{answer_by, Answerable}
use Rattle.iteration.proofs.Answering.{answerable, answer_right}
use Rattle.run_loop.specs.Runs.{SharesAt, ScoresAt}
use Rattle.sheet_turn.specs.Turns.{plain_book, plain_sheet, TurnShares}

-- what a step on some files asks of a state, shares and scores, and what it gives
abbrev pub Asked : (t : ℕ) → State → (qs : List ℕ) → (ps : List ℤ) → (b s : List ℕ) → Type 0
Asked t x qs ps b s = Holds fixed b s t x × (SharesAt fixed b s t qs × ScoresAt fixed b s t ps)

abbrev pub Given : (t : ℕ) → State → (old qs : List ℕ) → (ps : List ℤ) → (b s : List ℕ) → Type 0
Given t x old qs ps b s = Holds fixed b s t x × ((qs ≡ (iterate_of fixed b s t).shares ++ drop (boats b) old) × ScoresAt fixed b s t ps)

-- what some files share with the problem of others
pub record SameProblem (b s b' s' : List ℕ) : Type 0 where
  pub accepted : files_refusal b' s' ≡ 0
  pub same_boats : boats b' ≡ boats b
  pub same_shares : (t : ℕ) → (iterate_of fixed b' s' t).shares ≡ (iterate (problem b s) t).shares
  pub same_answer : (t : ℕ) → answer_at Sharper (plain_problem fixed b' s') t (iterate_of fixed b' s' t) ≡ answer_at Sharper (problem b s) t (iterate (problem b s) t)
  pub same_tolerance : (sheet s').tolerance ≡ (sheet s).tolerance

module _ (b s : List ℕ) (ok : files_refusal b s ≡ 0) where
  -- ---- Every factor 1

  by_itself : all_ones (sheet s).factors ≡ true → SameProblem b s b s
  by_itself h =
      record {
        accepted = ok;
        same_boats = refl;
        same_shares = λ t. ap (λ (p : Problem). (iterate p t).shares) (plain_is b s ok (sym h) plain_terms refl);
        same_answer = λ t. ap (λ (p : Problem). answer_at Sharper p t (iterate p t)) (plain_is b s ok (sym h) plain_terms refl);
        same_tolerance = refl;
      }

  -- ---- Derived files

  twin_is : plain_problem fixed (twin_book b s) (twin_sheet s) ≡ plain_of (problem b s)
  unfolding call_problem
  twin_is = (twin b s ok).plain_twin plain_terms

  tolerances : (sheet (twin_sheet s)).tolerance ≡ (sheet s).tolerance
  unfolding plain_problem plain_of call_problem
  tolerances = ap (λ (p : Problem). p.tolerance) twin_is

  pub by_twin : SameProblem b s (twin_book b s) (twin_sheet s)
  by_twin =
      record {
        accepted = (twin b s ok).accepted;
        same_boats = (twin b s ok).same_boats;
        same_shares = λ t. ap (λ (p : Problem). (iterate p t).shares) twin_is ∙ ap (λ x. x.shares) ((same b s ok plain_terms).same_iterate t);
        same_answer = λ t.
            ap (λ (p : Problem). answer_at Sharper p t (iterate p t)) twin_is
            ∙ ap (answer_at Sharper (plain_of (problem b s)) t) ((same b s ok plain_terms).same_iterate t)
            ∙ plain_answer_at (problem b s) Sharper t (iterate (problem b s) t);
        same_tolerance = tolerances;
      }

  -- ---- One of the two

  pub plain_same : SameProblem b s (plain_book b s) (plain_sheet s)
  unfolding plain_book plain_sheet
  plain_same = by (all_ones (sheet s).factors) refl
    where
      by : (t : Bool) → all_ones (sheet s).factors ≡ t → SameProblem b s (cond t b (twin_book b s)) (cond t s (twin_sheet s))
      by true e = by_itself e
      by false e = by_twin

  -- ---- Which of the two, by whether every factor is 1
  module _ {q : Bool} (e : q ≡ all_ones (sheet s).factors) where
    by_files : (P : List ℕ → List ℕ → Type 0) → P (cond q b (twin_book b s)) (cond q s (twin_sheet s)) → P (plain_book b s) (plain_sheet s)
    unfolding plain_book plain_sheet
    by_files P h = rw (← e) h

    to_files : (P : List ℕ → List ℕ → Type 0) → P (plain_book b s) (plain_sheet s) → P (cond q b (twin_book b s)) (cond q s (twin_sheet s))
    unfolding plain_book plain_sheet
    to_files P h = subst (λ (z : Bool). P (cond z b (twin_book b s)) (cond z s (twin_sheet s))) (sym e) h

    module _ (f : q ≡ true) where
      pub from_itself : (P : List ℕ → List ℕ → Type 0) → P b s → P (plain_book b s) (plain_sheet s)
      from_itself P h = by_files P (subst (λ (z : Bool). P (cond z b (twin_book b s)) (cond z s (twin_sheet s))) (sym f) h)

      pub to_itself : (P : List ℕ → List ℕ → Type 0) → P (plain_book b s) (plain_sheet s) → P b s
      to_itself P h = subst (λ (z : Bool). P (cond z b (twin_book b s)) (cond z s (twin_sheet s))) f (to_files P h)

    module _ (f : q ≡ false) where
      pub from_twin : (P : List ℕ → List ℕ → Type 0) → P (twin_book b s) (twin_sheet s) → P (plain_book b s) (plain_sheet s)
      from_twin P h = by_files P (subst (λ (z : Bool). P (cond z b (twin_book b s)) (cond z s (twin_sheet s))) (sym f) h)

      pub to_twin : (P : List ℕ → List ℕ → Type 0) → P (plain_book b s) (plain_sheet s) → P (twin_book b s) (twin_sheet s)
      to_twin P h = subst (λ (z : Bool). P (cond z b (twin_book b s)) (cond z s (twin_sheet s))) f (to_files P h)

  -- ---- Shares

  pub turn_shares : {t : ℕ} {qs : List ℕ} → TurnShares b s t qs → SharesAt fixed (plain_book b s) (plain_sheet s) t qs
  turn_shares {t} h =
      let p = plain_same in
      record { room = rw p.same_boats h.room; are = rw (p.same_boats, p.same_shares t) h.are }

  pub shares_after : (t : ℕ) (old : List ℕ) {qs : List ℕ} → qs ≡ (iterate_of fixed (plain_book b s) (plain_sheet s) t).shares ++ drop (boats (plain_book b s)) old →
      qs ≡ (iterate (problem b s) t).shares ++ drop (boats b) old
  shares_after t old h = let p = plain_same in h ∙ rw (p.same_shares t, p.same_boats)

  -- ---- What a step on these files asks and gives

  module _ {q : Bool} (e : q ≡ all_ones (sheet s).factors) {t : ℕ} {x : State} where
    module _ (H : Holds fixed (plain_book b s) (plain_sheet s) t x) {qs : List ℕ} (Q : TurnShares b s t qs) {ps : List ℤ} (S : ScoresAt fixed (plain_book b s) (plain_sheet s) t ps) where
      pub asks_itself : q ≡ true → Asked t x qs ps b s
      asks_itself f = to_itself e f (Asked t x qs ps) (H, (turn_shares Q, S))

      pub asks_twin : q ≡ false → Asked t x qs ps (twin_book b s) (twin_sheet s)
      asks_twin f = to_twin e f (Asked t x qs ps) (H, (turn_shares Q, S))

    module _ (old : List ℕ) {qs : List ℕ} {ps : List ℤ} where
      given : Given t x old qs ps (plain_book b s) (plain_sheet s) → Holds fixed (plain_book b s) (plain_sheet s) t x × ((qs ≡ (iterate (problem b s) t).shares ++ drop (boats b) old) × ScoresAt fixed (plain_book b s) (plain_sheet s) t ps)
      given h = (h.0, (shares_after t old h.1.0, h.1.1))

      pub gives_itself : q ≡ true → Given t x old qs ps b s → Holds fixed (plain_book b s) (plain_sheet s) t x × ((qs ≡ (iterate (problem b s) t).shares ++ drop (boats b) old) × ScoresAt fixed (plain_book b s) (plain_sheet s) t ps)
      gives_itself f h = given (from_itself e f (Given t x old qs ps) h)

      pub gives_twin : q ≡ false → Given t x old qs ps (twin_book b s) (twin_sheet s) → Holds fixed (plain_book b s) (plain_sheet s) t x × ((qs ≡ (iterate (problem b s) t).shares ++ drop (boats b) old) × ScoresAt fixed (plain_book b s) (plain_sheet s) t ps)
      gives_twin f h = given (from_twin e f (Given t x old qs ps) h)

  -- ---- The answer of a state

  module _ {t : ℕ} {x : State} (H : Holds fixed (plain_book b s) (plain_sheet s) (suc t) x) (few : suc t ≤ step_limit) where
    accepted : files_refusal (plain_book b s) (plain_sheet s) ≡ 0
    accepted = plain_same.accepted

    pub turn_answerable : Answerable x.distance x.weight x.target_score x.least s
    turn_answerable =
        let d = answerable (plain_book b s) (plain_sheet s) accepted fixed_sized H few in
        record { whole = (files_accepted b s ok).1.at_least; sized = d.sized; judged = rw plain_same.same_tolerance at d.judged }

    pub turn_answer : {a : Answer} → a ≡ answer_by Sharper x.steps x.weight (sheet s).tolerance x.distance x.target_score x.least →
        a ≡ answer_at Sharper (problem b s) (suc t) (iterate (problem b s) (suc t))
    turn_answer e = e ∙ rw (← plain_same.same_tolerance) (answer_right (plain_book b s) (plain_sheet s) accepted fixed_sized H few ∙ plain_same.same_answer (suc t))
