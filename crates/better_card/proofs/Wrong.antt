-- The card that a refusal is of, by what the check of the first gave, and that the number is that of this card.
use mathlib.Core.Path.{◌≡◌, refl, sym, ◌∙◌}
use mathlib.Core.Bool.{cond}
use mathlib.Core.List.{List}
use Prim.Native.Nat.{ℕ, zero, suc}
use native.Mathlib.Omega.{arith}
use borrow.Author.Tests.{eq-eqb, ne_eqb}
use lib.Dec.{eqb, eqb-suc-zero}
use Rattle.method.specs.declared.Answer.{Answer}
use Rattle.method.specs.Searched.{Searched}
use Rattle.method.specs.Searched.{Refused, Answered}
use Rattle.method.specs.Answers.{outcome}
use Rattle.method.proofs.Promise.{outcome_refused, outcome_answered}
use Rattle.card_format.specs.Format.{card_answer}
use Rattle.card_format.specs.Checks.{check_refusal}
use Rattle.better_card_promise.specs.Choices.{numbered}
use Rattle.better_card_promise.specs.Promise.{BetterRight}
use Rattle.better_card.specs.Wrong.{wrong_card}

module _ (b s x : List ℕ) {r : Searched} (e : r ≡ outcome (check_refusal b s x 256) (card_answer b s x)) where
  pub first_wrong : (n : ℕ) → r ≡ Refused n → 1 ≡ wrong_card b s x
  unfolding wrong_card
  first_wrong n q =
      let p = outcome_refused (check_refusal b s x 256) n (card_answer b s x) (sym e ∙ q) in
      rw (p.0, ne_eqb n 0 (λ z. omega (arith, p.1)))

  pub second_wrong : {a : Answer} → r ≡ Answered a → 2 ≡ wrong_card b s x
  unfolding wrong_card
  second_wrong {a} q = rw (outcome_answered (check_refusal b s x 256) (card_answer b s x) a (sym e ∙ q)).0

-- the check refuses this card by the number that was left
module _ (b s x y : List ℕ) where
  by_first : (m : ℕ) → check_refusal b s x 256 ≡ m → check_refusal b s (numbered (cond (eqb m 0) 2 1) x y) 256 ≡ cond (eqb m 0) (check_refusal b s y 256) m
  unfolding numbered
  by_first zero e = refl
  by_first (suc m) e = rw (eqb-suc-zero m) e

  pub wrong_refused : {k n : ℕ} {part : List ℕ} → k ≡ wrong_card b s x → BetterRight b s x y n part → check_refusal b s (numbered k x y) 256 ≡ n
  unfolding wrong_card
  wrong_refused e h = rw e (by_first (check_refusal b s x 256) refl ∙ sym h.as_checked)

  -- so it refuses the second where that is the wrong one, else the first
  pub second_refused : {k n : ℕ} → check_refusal b s (numbered k x y) 256 ≡ n → k ≡ 2 → check_refusal b s y 256 ≡ n
  unfolding numbered
  second_refused {k} e h = rw (eq-eqb k 2 h) at e

  pub first_refused : {k n : ℕ} → check_refusal b s (numbered k x y) 256 ≡ n → (k ≡ 2 → ⊥) → check_refusal b s x 256 ≡ n
  unfolding numbered
  first_refused {k} e h = rw (ne_eqb k 2 h) at e
