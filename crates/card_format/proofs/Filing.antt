-- What the card writer promises, of the outcome and the buffer that the definitions give.
use mathlib.Core.Path.{◌≡◌, refl, sym, ap, ◌∙◌}
use mathlib.Core.Bool.{Bool, true, false, cond}
use mathlib.Core.List.{List, [], ◌++◌}
use Prim.Native.Nat.{ℕ, zero, suc, ◌+◌, ◌≤◌}
use native.Mathlib.Omega.{arith}
use borrow.Author.Tests.{ltb-false}
use lib.Dec.{eqb, ltb, eqb-suc-zero}
use lib.ListN.{length, take}
use Rattle.method.specs.Calls.{call_refusal}
use Rattle.files.specs.Front.{FilesFrontUnread}
use Rattle.files.specs.Limits.{file_limit}
use Rattle.files.proofs.Front.{files_front_unread}
use Rattle.method.specs.declared.Answer.{Answer}
use Rattle.method.specs.Problem.{Terms, call_problem}
use Rattle.method.specs.Promise.{without_table}
use Rattle.method.specs.Answers.{slots_after, run_answer, run_slots}
use Rattle.method.proofs.Promise.{same_problem, problem_behind, run_right, run_gathered, run_in_book, length_after, slots_kept, counted_run}
use Rattle.method.proofs.BookNumbers.{problem_isolated, call_isolated, call_all, problem_all}
use Rattle.card_format.specs.Written.{Written}
use Rattle.card_format.specs.Written.{Refused, Filed}
use Rattle.card_format.specs.Format.{run_card_with}
use Rattle.card_format.specs.Checks.{write_refusal_with}
use Rattle.card_format.specs.Truth.{WrittenAccepted, WrittenShort}
use Rattle.card_format.specs.Filing.{writing_number, written_size, filing, ReadsBackWith, FiledRightWith, SameFiling, FilingRightWith}
use Rattle.card_format.proofs.Editions.{same_run_card, same_writing}
use Rattle.card_format.proofs.Front.{run_card_behind, writing_behind}
use Rattle.card_format.proofs.Counted.{counted_card, counted_writing}
use Rattle.card_format.proofs.Isolated.{card_isolated, card_all}
use Rattle.card_format.proofs.RunCards.{written_accepted, written_short}

pub filing_number : (n : ℕ) (a : Answer) (k : ℕ) → writing_number (filing n a k) ≡ n
unfolding writing_number filing
filing_number zero a k = refl
filing_number (suc n) a k = refl

pub filing_refused : (n m : ℕ) (a : Answer) (k : ℕ) → filing n a k ≡ Refused m → 1 ≤ m
unfolding filing
filing_refused zero m a k e = absurd (let z : ◌≡◌ {A = ℕ} 0 1 = cc in omega arith)
filing_refused (suc n) m a k e = let q : suc n ≡ m = cc in omega arith

pub filing_filed : (n : ℕ) (a x : Answer) (k m : ℕ) → filing n a k ≡ Filed x m → (n ≡ 0) × (a ≡ x)
unfolding filing
filing_filed zero a x k m e = (refl, cc)
filing_filed (suc n) a x k m e = absurd (let z : ◌≡◌ {A = ℕ} 0 1 = cc in omega arith)

pub filing_size : (a : Answer) (k : ℕ) → written_size (filing 0 a k) ≡ k
unfolding written_size filing
filing_size a k = refl

write_accepted : (m : Terms) (b s : List ℕ) (room : ℕ) → write_refusal_with m b s room ≡ 0 → (call_refusal m b s ≡ 0) × (length (run_card_with m b s) ≤ room)
unfolding write_refusal_with
write_accepted m b s room e = by (call_refusal m b s) refl (ltb room (length (run_card_with m b s))) refl e
  where
    by : (n : ℕ) → call_refusal m b s ≡ n → (u : Bool) → ltb room (length (run_card_with m b s)) ≡ u → cond (eqb n 0) (cond u 22 0) n ≡ 0 → (call_refusal m b s ≡ 0) × (length (run_card_with m b s) ≤ room)
    by zero q true r e = absurd (omega arith)
    by zero q false r e = (q, ltb-false room (length (run_card_with m b s)) r)
    by (suc n) q u r e = absurd (omega (arith, rw (eqb-suc-zero n) at e))

card_reads_back : (m : Terms) (b s : List ℕ) → call_refusal m b s ≡ 0 → (front : List ℕ) → length front + length (run_card_with m b s) ≤ file_limit → ReadsBackWith m b s (front ++ run_card_with m b s) (run_answer (call_problem m b s)) (run_slots m b s)
unfolding WrittenAccepted
card_reads_back m b s ok front h = let w = written_accepted m b s front ok h in record { accepted = w.0; answer = w.1; shares = w.2 }

filed_right : (m : Terms) (b s : List ℕ) → call_refusal m b s ≡ 0 → FiledRightWith m b s (run_answer (call_problem m b s)) (run_card_with m b s)
unfolding WrittenShort
filed_right m b s ok =
    let back = card_reads_back m b s ok [] (omega (arith, written_short m b s ok)) in
    record { card_is = refl; reads_back = back; behind_front = card_reads_back m b s ok; right = rw (back.shares, run_gathered m b s ok) (run_right m b s ok); in_book = rw back.shares (run_in_book m b s ok) }

-- ---- Other books and sets that change nothing

-- what makes two calls the same
same_filing_by : {m m' : Terms} {b b' s : List ℕ} → call_refusal m' b' s ≡ call_refusal m b s → call_problem m' b' s ≡ call_problem m b s → run_card_with m' b' s ≡ run_card_with m b s → SameFiling m m' b b' s
unfolding write_refusal_with
same_filing_by e p q = record { given = λ room. rw (e, p, q); left = λ output. rw (e, q) }

module _ (m : Terms) (b s out : List ℕ) {n : ℕ} {r : Written} {now : List ℕ} (e : n ≡ write_refusal_with m b s (length out)) (f : r ≡ filing n (run_answer (call_problem m b s)) (length (run_card_with m b s)))
    (g : now ≡ slots_after n (run_card_with m b s) out) where
  accepted : n ≡ 0 → (call_refusal m b s ≡ 0) × (length (run_card_with m b s) ≤ length out)
  accepted z = write_accepted m b s (length out) (sym e ∙ z)

  same_length : length now ≡ length out
  same_length = ap length g ∙ length_after n (run_card_with m b s) out (λ z. (accepted z).1)

  written_is : n ≡ 0 → take (written_size r) now ≡ run_card_with m b s
  written_is z =
      let k : written_size r ≡ length (run_card_with m b s) = ap written_size (f ∙ ap (λ j. filing j (run_answer (call_problem m b s)) (length (run_card_with m b s))) z) ∙ filing_size (run_answer (call_problem m b s)) (length (run_card_with m b s)) in
      rw k (ap (take (length (run_card_with m b s))) (g ∙ ap (λ j. slots_after j (run_card_with m b s) out) z) ∙ slots_kept (run_card_with m b s) out (length (run_card_with m b s)) refl)

  pub filing_right : FilingRightWith m b s r now
  unfolding FilesFrontUnread
  filing_right =
      record {
        number = ap writing_number f ∙ filing_number n (run_answer (call_problem m b s)) (length (run_card_with m b s)) ∙ e ∙ ap (write_refusal_with m b s) (sym same_length);
        refused = λ j q. filing_refused n j (run_answer (call_problem m b s)) (length (run_card_with m b s)) (sym f ∙ q);
        filed = λ a j q. let h = filing_filed n (run_answer (call_problem m b s)) a (length (run_card_with m b s)) j (sym f ∙ q) in rw (← h.1, written_is h.0) (filed_right m b s (accepted h.0).0);
        editions = λ s' d. (same_writing m b s s' d (length now), (same_problem m b s s' d, same_run_card m b s s' d));
        fronts = λ b' s' d h. let k = files_front_unread b s b' s' d h in (writing_behind m k (length now), (problem_behind m k, run_card_behind m k));
        counted = λ c. (counted_writing m b s c (length now), λ z. let ok = (write_accepted (without_table m) b s (length now) z).0 in ((counted_run m b s c ok).0, counted_card m b s c ok));
        isolated = λ b' h h' d. same_filing_by (call_isolated m b b' s h h' d) (problem_isolated m b b' s h h' d) (card_isolated m b b' s h h' d);
        all_boats = λ d. same_filing_by (sym (call_all m b s d)) (sym (problem_all m b s d)) (sym (card_all m b s d));
      }
