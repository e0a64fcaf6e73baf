-- The outcomes of `write_card_with`, refused by the terms or the files, refused by a short buffer, or filed, are those of the definitions.
use Rattle.std.specs.Prelude.{Option, None}
use mathlib.Core.Path.{◌≡◌, refl, ap, ◌∙◌}
use mathlib.Core.Bool.{true, false}
use mathlib.Core.List.{List, ◌++◌}
use Prim.Native.Nat.{ℕ, zero, suc, ◌+◌, ◌*◌, ◌≤◌, ◌<◌}
use native.Mathlib.Nat.{zero-add}
use native.Mathlib.Omega.{arith}
use borrow.Author.Tests.{lt-ltb, le-ltb}
use lib.Dec.{ltb, eqb-suc-zero}
use lib.ListN.{length, take, drop}
use lib.Seq.{take_at}
use Rattle.files.specs.Book.{boats, columns}
use Rattle.files.specs.Sheet.{sheet}
use Rattle.method.specs.declared.Test.TheVariants.{Sharper}
use Rattle.method.specs.declared.Answer.{Answer}
use Rattle.method.specs.declared.Released.{Released}
use Rattle.method.specs.Problem.{Terms, plain_terms, call_problem}
use Rattle.method.specs.Calls.{terms_in, call_refusal}
use Rattle.method.specs.Iterates.{support}
use Rattle.method.specs.Answers.{slots_after, run_answer, run_slots}
use Rattle.method.proofs.Promise.{run_slot_count}
use Rattle.card_format.specs.Written.{Written}
use Rattle.card_format.specs.Written.{Refused, Filed}
use Rattle.card_format.specs.Format.{pairs, trailer_bytes, answer_fields, card_bytes, run_card_with}
use Rattle.card_format.specs.Checks.{write_refusal_with}
use Rattle.card_format.specs.Filing.{filing, FilingRightWith}
use Rattle.card_format.proofs.RunCards.{run_pairs_length, run_card_length}
use Rattle.card_format.proofs.Filing.{filing_right}
use Rattle.buffers.specs.Placed.{placed}
use Rattle.buffers.proofs.Placing.{placed_next}

-- ---- Outcomes

module _ (set : Released) (table : Option (List ℕ)) (b s out : List ℕ) where
  abbrev m : Terms
  m = terms_in set table

  -- what the writer gives back and leaves in the buffer, by the refusal number
  abbrev Gives : (refusal : ℕ) → Written → List ℕ → Type 0
  Gives n r now = (r ≡ filing n (run_answer (call_problem m b s)) (length (run_card_with m b s))) × (now ≡ slots_after n (run_card_with m b s) out)

  -- and what is promised of it
  abbrev pub Promises : Written → List ℕ → Type 0
  Promises r now =
      (r ≡ filing (write_refusal_with m b s (length out)) (run_answer (call_problem m b s)) (length (run_card_with m b s)))
      × ((now ≡ slots_after (write_refusal_with m b s (length out)) (run_card_with m b s) out)
      × (FilingRightWith m b s r now × (set.limited ≡ false → table ≡ None → m ≡ plain_terms)))

  promised : {r : Written} {now : List ℕ} → Gives (write_refusal_with m b s (length out)) r now → Promises r now
  promised g = (g.0, (g.1, (filing_right m b s out refl g.0 g.1, λ e f. rw (e, f))))

  refused : (n : ℕ) → (n ≡ 0 → ⊥) → Gives n (Refused n) out
  unfolding filing slots_after
  refused zero h = absurd (h refl)
  refused (suc n) h = (refl, refl)

  refused_by : (n : ℕ) → n ≡ call_refusal m b s → (n ≡ 0 → ⊥) → Promises (Refused n) out
  unfolding write_refusal_with
  refused_by zero e h = absurd (h refl)
  refused_by (suc n) e h = promised (rw (← e, eqb-suc-zero n) (refused (suc n) h))

  pub refused_by_call : {r : Written} (n : ℕ) → n ≡ call_refusal m b s → (n ≡ 0 → ⊥) → r ≡ Refused n → Promises r out
  refused_by_call n e h q = rw q (refused_by n e h)

  module _ (ok : call_refusal m b s ≡ 0) {n : ℕ} (en : n ≡ boats b) {a : Answer} (ea : a ≡ run_answer (call_problem m b s)) (z : List ℕ) {qs : List ℕ} (eq : qs ≡ run_slots m b s ++ z) (k : ℕ)
      (ek : k ≡ support (take n qs)) where
    shares_are : take n qs ≡ run_slots m b s
    shares_are = rw en (ap (take (boats b)) eq ∙ take_at (run_slots m b s) z (boats b) (run_slot_count m b s ok))

    size_is : length (run_card_with m b s) ≡ 4 * k + 36
    size_is = run_card_length m b s ok ∙ rw (ek, shares_are)

    pairs_size : length (pairs 0 (take n qs)) ≡ 4 * k
    pairs_size = rw (ek, shares_are) (run_pairs_length m b s ok)

    pub refused_short : length out < 4 * k + 36 → Promises (Refused 22) out
    unfolding write_refusal_with filing slots_after
    refused_short h = let q : ltb (length out) (length (run_card_with m b s)) ≡ true = lt-ltb (length out) (length (run_card_with m b s)) (rw size_is h) in promised (rw (ok, q) (refl, refl))

    module _ (room : 4 * k + 36 ≤ length out) where
      pub pairs_fit : length (pairs 0 (take n qs)) ≤ length out
      pairs_fit = omega (arith, pairs_size)

      module _ (now₁ now₂ : List ℕ) (e₁ : now₁ ≡ placed out 0 (pairs 0 (take n qs))) (τ c : ℕ) (eτ : τ ≡ (sheet s).tolerance) (ec : c ≡ columns b)
          (e₂ : now₂ ≡ placed now₁ (4 * k) (trailer_bytes Sharper (answer_fields a (4 * k) τ n c))) where
        card_is : pairs 0 (take n qs) ++ trailer_bytes Sharper (answer_fields a (4 * k) τ n c) ≡ run_card_with m b s
        unfolding run_card_with card_bytes
        card_is = rw (← pairs_size, eτ, ec, ea, shares_are, en)

        buffer_is : now₂ ≡ run_card_with m b s ++ drop (length (run_card_with m b s)) out
        unfolding placed
        buffer_is =
            (unfold placed in placed_next out 0 (pairs 0 (take n qs)) (trailer_bytes Sharper (answer_fields a (4 * k) τ n c)) (4 * k) e₁ e₂ (omega (arith, pairs_size)) (omega (arith, pairs_size)))
            ∙ rw (card_is, zero-add (length (run_card_with m b s)))

        pub filed : Promises (Filed a (4 * k + 36)) now₂
        unfolding write_refusal_with filing slots_after
        filed =
            let q : ltb (length out) (length (run_card_with m b s)) ≡ false = le-ltb (length out) (length (run_card_with m b s)) (rw size_is room) in
            promised (rw (ok, q) (rw (ea, size_is), buffer_is))
