-- The steps of the method without regard to verdicts: the state, the shares and the scores are those of the iterates. Assumes nothing.
use mathlib.Core.Path.{◌≡◌, subst, sym, ◌∙◌}
use mathlib.Core.List.{List, ◌++◌}
use Prim.Native.Nat.{ℕ, suc, ◌+◌, ◌≤◌, ◌<◌}
use native.Mathlib.Omega.{arith}
use native.Mathlib.Numerals.{add-one}
use lib.IntN.{ℤ, pos}
use lib.ListN.{length, drop, replicate, length-replicate}
use lib.Seq.{length_front, length-take-le}
use Rattle.files.specs.Book.{boats, rows}
use Rattle.files.specs.Sheet.{sheet, files_refusal}
use Rattle.files.specs.Limits.{step_limit}
use Rattle.method.specs.Problem.{fixed}
use Rattle.method.proofs.Schedules.{fixed_sized}
use Rattle.method.proofs.Argmin.{length_scores}
use Rattle.method.proofs.Plain.{share_count}
use Rattle.iteration.specs.declared.State.{State}
use Rattle.iteration.specs.States.{iterate_of, scores_of, Holds}
use Rattle.iteration.specs.Measures.{Answerable}
use Rattle.iteration.proofs.States.{book_fits, sheet_fits, best_below}
use Rattle.iteration.proofs.Answering.{answerable}
use Rattle.run_loop.specs.Runs.{SharesAt, ScoresAt, Memory, memory_of, remembering, Remembered}
use Rattle.run_loop.proofs.Memory.{remembers_nothing, remembered, remembered_long, room_always}
use Rattle.run_loop.proofs.Keeping.{shares_start, scores_start, shares_after, scores_after}

-- what the loop over the steps keeps
pub record Followed (b s : List ℕ) (x : State) (shares : List ℕ) (scores : List ℤ) (m : Memory) : Type 0 where
  pub held : Holds fixed b s x.steps x
  pub most : x.steps ≤ (sheet s).steps
  pub shared : SharesAt fixed b s x.steps shares
  pub shares_long : length shares ≡ 256
  pub scored : ScoresAt fixed b s x.steps scores
  pub long : length scores ≡ 256
  pub remembers : Remembered b s m
  pub memory_long : length m.products ≡ 16384

module _ (b s : List ℕ) (ok : files_refusal b s ≡ 0) where
  pub follow_start : {x : State} → Holds fixed b s 0 x → Followed b s x (replicate 256 0) (replicate 256 (pos 0)) (memory_of (replicate 257 0) (replicate 64 (pos 0)) (replicate 16384 (pos 0)))
  follow_start {x} H =
      record {
        held = subst (λ n. Holds fixed b s n x) (sym H.steps_are) H;
        most = omega (arith, H.steps_are);
        shared = rw H.steps_are (shares_start b s ok fixed_sized 256 (book_fits b s ok).most_boats);
        shares_long = cc;
        scored = rw H.steps_are (scores_start b s ok fixed_sized 256 (book_fits b s ok).most_boats);
        long = cc;
        remembers = remembers_nothing b s (rw (length-replicate 16384 (pos 0)) (room_always b s ok));
        memory_long = length-replicate 16384 (pos 0);
      }

  module _ {x : State} {shares : List ℕ} {scores : List ℤ} {m : Memory} (F : Followed b s x shares scores m) (left : x.steps < (sheet s).steps) where
    pub few : x.steps < step_limit
    few = omega (arith, left, (sheet_fits b s ok).most_steps)

    module _ {y : State} (H : Holds fixed b s (x.steps + 1) y) where
      next_held : Holds fixed b s (suc x.steps) y
      next_held = rw add-one at H

      pub follow_answerable : Answerable y.distance y.weight y.target_score y.least s
      follow_answerable = answerable b s ok fixed_sized next_held (omega (arith, few))

      pub follow_more : {rs : List ℕ} → rs ≡ (iterate_of fixed b s (x.steps + 1)).shares ++ drop (boats b) shares →
          {new : List ℤ} → new ≡ scores_of fixed b s (x.steps + 1) ++ drop (boats b) scores → {m' : Memory} → m' ≡ remembering b s x.best m → Followed b s y rs new m'
      follow_more er en em =
          let p : y.steps ≡ suc x.steps = next_held.steps_are in
          record {
            held = subst (λ n. Holds fixed b s n y) (sym p) next_held;
            most = omega (arith, p, left);
            shared = rw H.steps_are (shares_after b s ok fixed_sized x.steps shares er);
            shares_long = rw (er, length_front shares (iterate_of fixed b s (x.steps + 1)).shares (boats b) (share_count b s ok fixed_sized (x.steps + 1) ∙ sym (length-take-le (boats b) shares F.shared.room))) F.shares_long;
            scored = rw H.steps_are (scores_after b s ok fixed_sized x.steps scores en);
            long = rw (en, length_front scores (scores_of fixed b s (x.steps + 1)) (boats b) (length_scores _ _ (rows b) ∙ (book_fits b s ok).row_count ∙ sym (length-take-le (boats b) scores F.scored.room))) F.long;
            remembers = rw em (remembered b s ok F.remembers (best_below b s ok fixed_sized F.held));
            memory_long = rw (em, remembered_long b s ok F.remembers (best_below b s ok fixed_sized F.held)) F.memory_long;
          }
