-- A Spent run of all boats of a book, its moves and the answer of its shares make the result that is defined.
use mathlib.Core.Path.{◌≡◌, sym, ap, ◌∙◌}
use mathlib.Core.List.{List, ◌++◌}
use Rattle.std.specs.Prelude.{Ok, Err}
use Rattle.std.specs.Prelude as std
use Rattle.std.specs.Result.{IsErr, IsErrAnd}
use Rattle.refusals.specs.declared.Refusal.{Refusal}
use Rattle.refusals.specs.Numbers.{number}
use Prim.Native.Nat.{ℕ, ◌≤◌}
use native.Mathlib.Omega.{arith}
use lib.ListN.{take, drop}
use lib.Seq.{take_at}
use Rattle.frank_wolfe.specs.Vectors.{sum}
use Rattle.files.specs.Book.{boats}
use Rattle.files.specs.Sheet.{sheet, files_refusal}
use Rattle.files.proofs.Accepted.{files_accepted}
use Rattle.method.specs.declared.Test.TheVariants.{Sharper}
use Rattle.method.specs.declared.Answer.{Answer}
use Rattle.method.specs.Problem.{Terms, fixed, weight, plain_terms, call_problem, problem}
use Rattle.method.specs.Answers.{verdict_number, run_answer, run_iterate}
use Rattle.method.specs.Bounds.{answer_of, AnswerBounds}
use Rattle.method.proofs.Promise.{run_right, run_slot_count}
use Rattle.pairwise.specs.Moves.{moves, spent_refusal, moves_refusal, worked_shares, worked_answer}
use Rattle.pairwise.specs.Call.{worked_slots}
use Rattle.pairwise.specs.Worked.{WorkedRight, WorkingOver}
use Rattle.pairwise.proofs.Worked.{working_over, length_moves}
use Rattle.pairwise.proofs.Call.{spent_accepted}
use Rattle.pairwise_run.specs.declared.WorkedRun.{WorkedRun}
use Rattle.pairwise_run.specs.Result.{Result}

-- what a `?` gives back has the number of the reason that it was given
pub refused_result : (m : Terms) (b s : List ℕ) (n : ℕ) (r : std.Result WorkedRun Refusal) (e : Refusal) → IsErr r × IsErrAnd r (λ x. x ≡ e) →
    number e ≡ moves_refusal (call_problem m b s) n → Result m b s n r
refused_result m b s n (Ok w) e h q = elim h.1 [ ]
refused_result m b s n (Err x) e h q =
    record {
      number = ap number h.1 ∙ q;
      answer = λ w k. absurd (let z : ◌≡◌ {A = ℕ} 0 1 = cc in omega arith);
      slots = λ w k. absurd (let z : ◌≡◌ {A = ℕ} 0 1 = cc in omega arith);
    }

-- and a run that is worked over
pub worked_result : (m : Terms) (b s : List ℕ) (n : ℕ) (w : WorkedRun) → 0 ≡ moves_refusal (call_problem m b s) n → w.answer ≡ worked_answer (call_problem m b s) n →
    take (boats b) w.shares ≡ worked_slots m b s n → Result m b s n (Ok w)
worked_result m b s n w z ea es =
    record {
      number = z;
      answer = λ x k. let q : w ≡ x = cc in ap (λ (y : WorkedRun). y.answer) (sym q) ∙ ea;
      slots = λ x k. let q : w ≡ x = cc in ap (λ (y : WorkedRun). take (boats b) y.shares) (sym q) ∙ es;
    }

module _ (b s : List ℕ) (ok : files_refusal b s ≡ 0) {a : Answer} (ea : a ≡ run_answer (problem b s)) {qs : List ℕ} (rest : List ℕ) (eq : qs ≡ (run_iterate (problem b s)).shares ++ rest)
    (n : ℕ) {v : ℕ} (ev : v ≡ verdict_number a.verdict) {k : ℕ} (ek : k ≡ spent_refusal v n) where
  pub number_is : k ≡ spent_refusal (verdict_number (run_answer (problem b s)).verdict) n
  number_is = ek ∙ ap (λ i. spent_refusal i n) (ev ∙ ap (λ (x : Answer). verdict_number x.verdict) ea)

  shares_are : take (boats b) qs ≡ (run_iterate (problem b s)).shares
  shares_are = ap (take (boats b)) eq ∙ take_at (run_iterate (problem b s)).shares rest (boats b) (run_slot_count plain_terms b s ok)

  bounds : AnswerBounds Sharper (problem b s) (run_answer (problem b s)) (run_iterate (problem b s)).shares
  bounds = (run_right plain_terms b s ok).bounds.answer

  -- where it ended Spent
  module _ (z : k ≡ 0) where
    spent : verdict_number (run_answer (problem b s)).verdict ≡ 3
    spent = spent_accepted _ n (sym number_is ∙ z)

    last : (run_answer (problem b s)).steps ≡ (sheet s).steps
    unfolding call_problem
    last = bounds.spent_last spent

    steps_are : a.steps ≡ (run_answer (problem b s)).steps
    steps_are = ap (λ (x : Answer). x.steps) ea

    pub total : sum (take (boats b) qs) ≡ weight fixed (sheet s).steps
    unfolding call_problem
    total = rw shares_are (bounds.total ∙ ap (weight fixed) last)

    module _ {ps : List ℕ} (e : ps ≡ moves n (problem b s) (take (boats b) qs) ++ drop (boats b) qs) where
      right : WorkedRight (problem b s) n (worked_answer (problem b s) n) (worked_shares (problem b s) n)
      unfolding WorkingOver
      right = working_over plain_terms b s n ok spent

      moved_are : take (boats b) ps ≡ worked_shares (problem b s) n
      unfolding worked_shares
      moved_are =
          let xs = moves n (problem b s) (run_iterate (problem b s)).shares in
          let f : ps ≡ xs ++ drop (boats b) qs = e ∙ rw shares_are in
          ap (take (boats b)) f ∙ take_at xs (drop (boats b) qs) (boats b) (length_moves n (problem b s) (run_iterate (problem b s)).shares ∙ run_slot_count plain_terms b s ok)

      pub answer_steps : (1 ≤ a.steps) × (a.steps ≤ 360)
      answer_steps = (omega (arith, steps_are, bounds.some_step), omega (arith, steps_are, last, (files_accepted b s ok).1.most_steps))

      pub answer_total : sum (take (boats b) ps) ≡ weight fixed a.steps
      unfolding call_problem
      answer_total = rw (moved_are, steps_are) (right.total ∙ bounds.total)

      pub finished : {x : Answer} → x ≡ answer_of Sharper (problem b s) (take (boats b) ps) a.steps → Result plain_terms b s n (Ok (record { answer = x; shares = ps }))
      unfolding worked_answer
      finished q = worked_result plain_terms b s n _ (sym z ∙ number_is) (q ∙ rw (moved_are, steps_are)) moved_are
