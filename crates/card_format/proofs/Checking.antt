-- What the card check promises, of the outcome and the share list that the definitions give.
use mathlib.Core.Path.{◌≡◌, sym, ap, ◌∙◌}
use mathlib.Core.Bool.{true}
use mathlib.Core.Logic.{◌↔◌}
use mathlib.Core.List.{List}
use Prim.Native.Nat.{ℕ, ◌≤◌}
use lib.ListN.{length, take}
use Rattle.files.specs.Bytes.{all_bytes}
use Rattle.files.specs.Book.{boats}
use Rattle.files.proofs.Accepted.{files_accepted}
use Rattle.method.specs.Searched.{Searched}
use Rattle.method.specs.Problem.{Terms}
use Rattle.method.specs.Answers.{refusal_number, outcome, search_refusal_with, slots_after}
use Rattle.method.proofs.Accepted.{files_ok}
use Rattle.method.proofs.Promise.{search_accepted, outcome_number, outcome_refused, outcome_answered, length_after, slots_kept}
use Rattle.card_format.specs.Format.{card_shares, card_answer_with}
use Rattle.card_format.specs.Checks.{card_refusal_with, check_refusal_with}
use Rattle.card_format.specs.Truth.{CardTrueWith, CardVouchesWith, AcceptedExactly, FiledBeforeTrue, AcceptedVouches}
use Rattle.card_format.specs.Front.{CardFrontUnread}
use Rattle.card_format.specs.Checking.{CheckRightWith}
use Rattle.card_format.proofs.Editions.{same_check, same_card_answer}
use Rattle.card_format.proofs.Front.{card_front_unread}
use Rattle.card_format.proofs.Accepted.{both_zero}
use Rattle.card_format.proofs.Counted.{counted_check, counted_checked}
use Rattle.card_format.proofs.Isolated.{answer_isolated, check_isolated, answer_all, check_all}
use Rattle.card_format.proofs.Vouches.{accepted_exactly, accepted_vouches}
use Rattle.card_format.proofs.RunCards.{filed_before_true}

module _ (m : Terms) (b s w slots : List ℕ) (all : all_bytes w ≡ true) {n : ℕ} {r : Searched} {now : List ℕ} (e : n ≡ check_refusal_with m b s w (length slots))
    (f : r ≡ outcome n (card_answer_with m b s w)) (g : now ≡ slots_after n (card_shares (boats b) w) slots) where
  accepted : n ≡ 0 → (search_refusal_with m b s (length slots) ≡ 0) × (card_refusal_with m b s w ≡ 0)
  unfolding check_refusal_with
  accepted z = both_zero (search_refusal_with m b s (length slots)) (card_refusal_with m b s w) (sym e ∙ z)

  share_count : n ≡ 0 → (length (card_shares (boats b) w) ≡ boats b) × (boats b ≤ length slots)
  unfolding AcceptedVouches
  share_count z =
      let h = accepted z in
      let k = search_accepted m b s (length slots) h.0 in
      ((accepted_vouches m b s w k.0 all h.1).in_book.slot_count ∙ (files_accepted b s (files_ok m b s k.0)).0.row_count, k.1)

  same_length : length now ≡ length slots
  same_length = ap length g ∙ length_after n (card_shares (boats b) w) slots (λ z. rw (share_count z).0 (share_count z).1)

  number_is : refusal_number r ≡ n
  number_is = ap refusal_number f ∙ outcome_number n (card_answer_with m b s w)

  vouches : n ≡ 0 → CardVouchesWith m b s w (card_answer_with m b s w) (take (boats b) now)
  unfolding AcceptedVouches
  vouches z =
      let h = accepted z in
      let kept : take (boats b) now ≡ card_shares (boats b) w = ap (take (boats b)) (g ∙ ap (λ j. slots_after j (card_shares (boats b) w) slots) z) ∙ slots_kept (card_shares (boats b) w) slots (boats b) (share_count z).0 in
      rw kept (accepted_vouches m b s w (search_accepted m b s (length slots) h.0).0 all h.1)

  exactly : search_refusal_with m b s (length now) ≡ 0 → (refusal_number r ≡ 0) ↔ CardTrueWith m b s w
  unfolding AcceptedExactly check_refusal_with
  exactly z =
      let y : search_refusal_with m b s (length slots) ≡ 0 = ap (search_refusal_with m b s) (sym same_length) ∙ z in
      let x = accepted_exactly m b s w (search_accepted m b s (length slots) y).0 all in
      let k : refusal_number r ≡ card_refusal_with m b s w = number_is ∙ e ∙ rw y in
      (λ q. x.0 (sym k ∙ q), λ q. k ∙ (x.1 q).0)

  pub check_right : CheckRightWith m b s w r now
  unfolding FiledBeforeTrue CardFrontUnread
  check_right =
      record {
        number = number_is ∙ e ∙ ap (check_refusal_with m b s w) (sym same_length);
        refused = λ j q. (outcome_refused n j (card_answer_with m b s w) (sym f ∙ q)).1;
        exactly = exactly;
        filed_before = λ z c. (exactly z).1 (filed_before_true m b s w (search_accepted m b s (length now) z).0 c);
        answered = λ a q. let h = outcome_answered n (card_answer_with m b s w) a (sym f ∙ q) in rw (← h.1) (vouches h.0);
        editions = λ s' d. (same_check m b s s' d w (length now), same_card_answer m b s s' d w);
        fronts = λ b' s' w' d h k. card_front_unread m b s w b' s' w' d h k;
        counted = λ c. (counted_check m b s c w (length now), counted_checked m b s c w (length now));
        isolated = λ b' h h' d. record {
          given = λ k. rw (check_isolated m b b' s h h' d w k, answer_isolated m b b' s h h' d w);
          left = λ old. rw (check_isolated m b b' s h h' d w (length old), d.boats_same);
        };
        all_boats = λ d. record { given = λ k. rw (check_all m b s d w k, answer_all m b s d w); left = λ old. rw (check_all m b s d w (length old)) };
      }
