-- The outcomes of `work_over`, refused by the set or the files, by the run or the moves, by a short buffer, or filed, are those of the definitions.
use mathlib.Core.Path.{◌≡◌, refl, sym, ◌∙◌}
use mathlib.Core.Bool.{Bool, true, false, cond}
use mathlib.Core.List.{List, ◌++◌}
use Rattle.std.specs.Prelude.{Ok, Err}
use Rattle.refusals.specs.declared.Refusal.{Refusal}
use Rattle.refusals.specs.Numbers.{number}
use Rattle.refusals.proofs.Numbers.{positive}
use Prim.Native.Nat.{ℕ, zero, suc, ◌+◌, ◌*◌, ◌≤◌, ◌<◌}
use native.Mathlib.Nat.{zero-add}
use native.Mathlib.Omega.{arith}
use borrow.Author.Tests.{lt-ltb, le-ltb}
use lib.Dec.{ltb}
use lib.ListN.{length, take, drop}
use Rattle.files.specs.Book.{boats, columns}
use Rattle.files.specs.Sheet.{sheet}
use Rattle.method.specs.declared.Test.TheVariants.{Sharper}
use Rattle.method.specs.Problem.{Terms, call_problem}
use Rattle.method.specs.Calls.{call_refusal}
use Rattle.method.specs.Iterates.{support}
use Rattle.method.specs.Answers.{verdict_number, run_answer, slots_after}
use Rattle.calls.proofs.First.{first_refuses, later_refuses}
use Rattle.card_format.specs.Written.{Written}
use Rattle.card_format.specs.Written.{Refused, Filed}
use Rattle.card_format.specs.Format.{pairs, trailer_bytes, answer_fields, card_bytes}
use Rattle.card_format.specs.Filing.{filing}
use Rattle.buffers.specs.Placed.{placed}
use Rattle.buffers.proofs.Placing.{placed_next}
use Rattle.pairwise.specs.Moves.{moves_refusal, worked_answer}
use Rattle.pairwise.specs.Call.{worked_slots, worked_card, work_refusal, WorkingRight}
use Rattle.pairwise.proofs.Call.{pairs_length, card_length, spent_accepted, outcome_right}
use Rattle.pairwise_run.specs.declared.WorkedRun.{WorkedRun}
use Rattle.pairwise_run.specs.Result.{Result}

module _ (m : Terms) (b s : List ℕ) (n : ℕ) (out : List ℕ) where
  -- what the entry gives back and leaves in the buffer, by the refusal number
  abbrev Gives : (refusal : ℕ) → Written → List ℕ → Type 0
  Gives k r now = (r ≡ filing k (worked_answer (call_problem m b s) n) (length (worked_card m b s n))) × (now ≡ slots_after k (worked_card m b s n) out)

  -- and what is promised of it
  abbrev pub Promises : Written → List ℕ → Type 0
  Promises r now =
      (r ≡ filing (work_refusal m b s n (length out)) (worked_answer (call_problem m b s) n) (length (worked_card m b s n)))
      × ((now ≡ slots_after (work_refusal m b s n (length out)) (worked_card m b s n) out) × WorkingRight m b s n r now)

  promised : {k : ℕ} → work_refusal m b s n (length out) ≡ k → {r : Written} {now : List ℕ} → Gives k r now → Promises r now
  promised e g = rw e (g.0, (g.1, outcome_right m b s n out (sym e) g.0 g.1))

  refused : (k : ℕ) → (k ≡ 0 → ⊥) → Gives k (Refused k) out
  unfolding filing slots_after
  refused zero h = absurd (h refl)
  refused (suc k) h = (refl, refl)

  -- ---- The order of the tests

  call_refuses : (k : ℕ) → k ≡ call_refusal m b s → (k ≡ 0 → ⊥) → work_refusal m b s n (length out) ≡ k
  unfolding work_refusal
  call_refuses k e h = sym (first_refuses k _ e h)

  moves_refuse : call_refusal m b s ≡ 0 → (k : ℕ) → k ≡ moves_refusal (call_problem m b s) n → (k ≡ 0 → ⊥) → work_refusal m b s n (length out) ≡ k
  unfolding work_refusal
  moves_refuse ok k e h = sym (later_refuses (call_refusal m b s) refl ok (first_refuses k _ e h))

  room_decides : call_refusal m b s ≡ 0 → moves_refusal (call_problem m b s) n ≡ 0 → (t : Bool) → ltb (length out) (length (worked_card m b s n)) ≡ t → work_refusal m b s n (length out) ≡ cond t 22 0
  unfolding work_refusal
  room_decides ok passed t q = rw (ok, passed, q) refl

  -- ---- The outcomes

  pub refused_by_call : {r : Written} (k : ℕ) → k ≡ call_refusal m b s → (k ≡ 0 → ⊥) → r ≡ Refused k → Promises r out
  refused_by_call k e h q = rw q (promised (call_refuses k e h) (refused k h))

  module _ (ok : call_refusal m b s ≡ 0) where
    pub refused_by_moves : {r : Written} {x : Refusal} → Result m b s n (Err x) → r ≡ Refused (number x) → Promises r out
    refused_by_moves {x = x} d q = rw q (promised (moves_refuse ok (number x) d.number (positive x)) (refused (number x) (positive x)))

    module _ {w : WorkedRun} (d : Result m b s n (Ok w)) {c : ℕ} (ec : c ≡ boats b) (k : ℕ) (ek : k ≡ support (take c w.shares)) where
      passed : moves_refusal (call_problem m b s) n ≡ 0
      passed = sym d.number

      spent : verdict_number (run_answer (call_problem m b s)).verdict ≡ 3
      spent = spent_accepted _ n passed

      shares_are : take c w.shares ≡ worked_slots m b s n
      shares_are = rw ec (d.slots w refl)

      size_is : length (worked_card m b s n) ≡ 4 * k + 36
      size_is = card_length m b s n ok spent ∙ rw (ek, shares_are)

      pairs_size : length (pairs 0 (take c w.shares)) ≡ 4 * k
      pairs_size = rw (ek, shares_are) (pairs_length m b s n ok spent)

      pub refused_short : length out < 4 * k + 36 → Promises (Refused 22) out
      unfolding filing slots_after
      refused_short h =
          let q : ltb (length out) (length (worked_card m b s n)) ≡ true = lt-ltb (length out) (length (worked_card m b s n)) (rw size_is h) in
          promised (room_decides ok passed true q) (refl, refl)

      module _ (room : 4 * k + 36 ≤ length out) where
        pub pairs_fit : length (pairs 0 (take c w.shares)) ≤ length out
        pairs_fit = omega (arith, pairs_size)

        module _ (now₁ now₂ : List ℕ) (e₁ : now₁ ≡ placed out 0 (pairs 0 (take c w.shares))) (τ i : ℕ) (eτ : τ ≡ (sheet s).tolerance) (ei : i ≡ columns b)
            (e₂ : now₂ ≡ placed now₁ (4 * k) (trailer_bytes Sharper (answer_fields w.answer (4 * k) τ c i))) where
          card_is : pairs 0 (take c w.shares) ++ trailer_bytes Sharper (answer_fields w.answer (4 * k) τ c i) ≡ worked_card m b s n
          unfolding worked_card card_bytes
          card_is = rw (← pairs_size, eτ, ei, d.answer w refl, shares_are, ec)

          buffer_is : now₂ ≡ worked_card m b s n ++ drop (length (worked_card m b s n)) out
          unfolding placed
          buffer_is =
              (unfold placed in placed_next out 0 (pairs 0 (take c w.shares)) (trailer_bytes Sharper (answer_fields w.answer (4 * k) τ c i)) (4 * k) e₁ e₂ (omega (arith, pairs_size)) (omega (arith, pairs_size)))
              ∙ rw (card_is, zero-add (length (worked_card m b s n)))

          pub filed : Promises (Filed w.answer (4 * k + 36)) now₂
          unfolding filing slots_after
          filed =
              let q : ltb (length out) (length (worked_card m b s n)) ≡ false = le-ltb (length out) (length (worked_card m b s n)) (rw size_is room) in
              promised (room_decides ok passed false q) (rw (d.answer w refl, size_is), buffer_is)
