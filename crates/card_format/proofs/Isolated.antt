-- Cards of books that a call cannot tell apart, and of a set of all boats: their bytes, refusals and answers are the same.
use mathlib.Core.Path.{◌≡◌, refl, ◌∙◌}
use mathlib.Core.Bool.{Bool, true, false}
use mathlib.Core.List.{List}
use Prim.Native.Nat.{ℕ, zero, suc}
use native.Mathlib.Omega.{arith}
use borrow.Author.Tests.{ltb-true, ltb-false}
use lib.Dec.{ltb}
use lib.ListN.{length, get_or, drop, replicate, length-set, length-replicate, get_or-eq_default}
use Rattle.files.specs.Book.{boats, book_refusal}
use Rattle.method.specs.ReleasedBoats.{may_use, gather}
use Rattle.method.specs.Problem.{Terms}
use Rattle.method.specs.Answers.{search_refusal_with}
use Rattle.method.specs.BookNumbers.{SameReleased, AllBoats}
use Rattle.method.specs.Promise.{without_set}
use Rattle.method.proofs.ReleasedBoats.{gather_all}
use Rattle.method.proofs.BookNumbers.{problem_isolated, slots_isolated, call_isolated, call_all, problem_all, slots_all}
use Rattle.card_format.specs.Format.{card_body, pair_count, shares_into, card_shares, card_answer_with, run_card_with}
use Rattle.card_format.specs.Checks.{rests, card_refusal_with, check_refusal_with}
use Rattle.card_format.proofs.Accepted.{rests_said}

module _ (m : Terms) (b b' s : List ℕ) (ok : book_refusal b ≡ 0) (ok' : book_refusal b' ≡ 0) (same : SameReleased m.released b b') where
  pub card_isolated : run_card_with m b' s ≡ run_card_with m b s
  unfolding run_card_with
  card_isolated = rw (slots_isolated m b b' s ok ok' same, problem_isolated m b b' s ok ok' same, same.boats_same, same.columns_same)

  pub answer_isolated : (w : List ℕ) → card_answer_with m b' s w ≡ card_answer_with m b s w
  unfolding card_answer_with
  answer_isolated w = rw (problem_isolated m b b' s ok ok' same, same.boats_same)

  pub check_isolated : (w : List ℕ) (slots : ℕ) → check_refusal_with m b' s w slots ≡ check_refusal_with m b s w slots
  unfolding check_refusal_with search_refusal_with card_refusal_with
  check_isolated w slots = rw (call_isolated m b b' s ok ok' same, problem_isolated m b b' s ok ok' same, same.boats_same, same.columns_same)

-- ---- A set of all boats

shares_into_length : (k : ℕ) (bs qs : List ℕ) → length (shares_into k bs qs) ≡ length qs
unfolding shares_into
shares_into_length zero bs qs = refl
shares_into_length (suc k) bs qs = shares_into_length k (drop 4 bs) _ ∙ simp length-set

card_shares_length : (n : ℕ) (w : List ℕ) → length (card_shares n w) ≡ n
unfolding card_shares
card_shares_length n w = shares_into_length (pair_count w) (card_body w) (replicate n 0) ∙ length-replicate {A = ℕ} n 0

module _ (m : Terms) (b s : List ℕ) (all : AllBoats m.released (boats b)) where
  pub card_all : run_card_with m b s ≡ run_card_with (without_set m) b s
  unfolding run_card_with
  card_all = rw (slots_all m b s all, problem_all m b s all)

  module _ (w : List ℕ) where
    abbrev qs : List ℕ
    qs = card_shares (boats b) w

    gathered : gather m.released qs ≡ qs
    gathered = gather_all m.released qs (λ j h. (all j).0 (omega (arith, card_shares_length (boats b) w)))

    resting : rests m.released qs ≡ true
    resting = rests_said m.released qs outside
      where
        outside : (i : ℕ) → may_use m.released i ≡ false → get_or qs i 0 ≡ 0
        outside i t = by (ltb i (boats b)) refl
          where
            by : (x : Bool) → ltb i (boats b) ≡ x → get_or qs i 0 ≡ 0
            by true x = absurd (let e = (all i).0 (ltb-true i (boats b) x) in let z : ◌≡◌ {A = ℕ} 0 1 = cc in omega arith)
            by false x = get_or-eq_default qs 0 (omega (arith, card_shares_length (boats b) w, ltb-false i (boats b) x))

    pub answer_all : card_answer_with m b s w ≡ card_answer_with (without_set m) b s w
    unfolding card_answer_with
    answer_all = rw (problem_all m b s all, gathered)

    pub check_all : (slots : ℕ) → check_refusal_with m b s w slots ≡ check_refusal_with (without_set m) b s w slots
    unfolding check_refusal_with search_refusal_with card_refusal_with
    check_all slots = rw (call_all m b s all, problem_all m b s all, resting, gathered)
