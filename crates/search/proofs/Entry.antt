-- The outcomes of `search_with`, refused by the terms or the files, refused by a short share list, or answered, are those of the definitions. Assumes nothing.
use Rattle.std.specs.Prelude.{Option, None}
use mathlib.Core.Path.{◌≡◌, refl, ap, ◌∙◌}
use mathlib.Core.Bool.{Bool, true, false}
use mathlib.Core.List.{List, ◌++◌}
use Prim.Native.Nat.{ℕ, zero, suc, ◌≤◌, ◌<◌}
use borrow.Author.Tests.{lt-ltb, le-ltb}
use lib.Dec.{ltb, eqb-suc-zero}
use lib.ListN.{length, drop}
use Rattle.files.specs.Book.{boats}
use Rattle.method.specs.declared.Answer.{Answer}
use Rattle.method.specs.Searched.{Searched, Refused, Answered}
use Rattle.method.specs.declared.Released.{Released}
use Rattle.method.specs.Problem.{Terms, plain_terms, call_problem}
use Rattle.method.specs.Calls.{terms_in, call_refusal}
use Rattle.method.specs.Answers.{outcome, search_refusal_with, slots_after, run_answer, run_slots}
use Rattle.method.specs.Promise.{OutcomeRightWith}
use Rattle.method.proofs.Promise.{run_slot_count, outcome_right}

module _ (set : Released) (table : Option (List ℕ)) (b s slots : List ℕ) where
  abbrev m : Terms
  m = terms_in set table

  -- what a search gives back and leaves in the list, by the refusal number
  abbrev Gives : (refusal : ℕ) → Searched → List ℕ → Type 0
  Gives n r now = (r ≡ outcome n (run_answer (call_problem m b s))) × (now ≡ slots_after n (run_slots m b s) slots)

  -- and what is promised of it
  abbrev pub Promises : Searched → List ℕ → Type 0
  Promises r now =
      (r ≡ outcome (search_refusal_with m b s (length slots)) (run_answer (call_problem m b s)))
      × ((now ≡ slots_after (search_refusal_with m b s (length slots)) (run_slots m b s) slots)
      × (OutcomeRightWith m b s r now × (set.limited ≡ false → table ≡ None → m ≡ plain_terms)))

  promised : {r : Searched} {now : List ℕ} → Gives (search_refusal_with m b s (length slots)) r now → Promises r now
  promised {r} {now} g = (g.0, (g.1, (outcome_right m b s slots _ r now refl g.0 g.1, λ e f. rw (e, f))))

  refused : (n : ℕ) → (n ≡ 0 → ⊥) → Gives n (Refused n) slots
  unfolding outcome slots_after
  refused zero h = absurd (h refl)
  refused (suc n) h = (refl, refl)

  refused_by : (n : ℕ) → n ≡ call_refusal m b s → (n ≡ 0 → ⊥) → Promises (Refused n) slots
  unfolding search_refusal_with
  refused_by zero e h = absurd (h refl)
  refused_by (suc n) e h = promised (rw (← e, eqb-suc-zero n) (refused (suc n) h))

  pub refused_by_call : {r : Searched} (n : ℕ) → n ≡ call_refusal m b s → (n ≡ 0 → ⊥) → r ≡ Refused n → Promises r slots
  refused_by_call n e h q = rw q (refused_by n e h)

  module _ (ok : call_refusal m b s ≡ 0) {n : ℕ} (en : n ≡ boats b) where
    pub refused_short : length slots < n → Promises (Refused 21) slots
    unfolding search_refusal_with outcome slots_after
    refused_short h = let k : ltb (length slots) (boats b) ≡ true = rw (← en) (lt-ltb (length slots) n h) in promised (rw (ok, k) (refl, refl))

    pub answered : n ≤ length slots → {a : Answer} → a ≡ run_answer (call_problem m b s) → {now : List ℕ} → now ≡ run_slots m b s ++ drop (boats b) slots → Promises (Answered a) now
    unfolding search_refusal_with outcome slots_after
    answered h ea e =
        let k : ltb (length slots) (boats b) ≡ false = rw (← en) (le-ltb (length slots) n h) in
        promised (rw (ok, k) (ap Answered ea, e ∙ rw (run_slot_count m b s ok)))
