-- The listing of a card check with a share list of 256 slots. Assumes nothing.
use mathlib.Core.Path.{◌≡◌, refl, sym, ap, ◌∙◌}
use mathlib.Core.Bool.{true}
use mathlib.Core.List.{List}
use Prim.Native.Nat.{ℕ, zero, suc}
use native.Mathlib.Omega.{arith}
use lib.ListN.{length, drop, set, replicate, length-set, length-replicate}
use Rattle.method.specs.Problem.{plain_terms}
use Rattle.files.specs.Bytes.{all_bytes, number}
use Rattle.files.specs.Book.{boats}
use Rattle.files.specs.Sheet.{files_refusal}
use Rattle.method.specs.Searched.{Searched}
use Rattle.method.specs.Answers.{refusal_number, outcome, search_refusal, slots_after}
use Rattle.card_format.specs.Format.{shares_into, card_shares, card_answer}
use Rattle.card_format.specs.Checks.{card_refusal, check_refusal, check_refusal_with}
use Rattle.method.proofs.Promise.{outcome_number}
use Rattle.listing.specs.Lines.{outcome_listing, Listable}
use Rattle.text.specs.Texts.{Holds}
use Rattle.text.specs.declared.Text.{Text}
use Rattle.listing.proofs.Outcomes.{listable, same_listing, long_enough, same_refusal, after_itself}
use Rattle.card_format.proofs.Accepted.{both_zero}
use Rattle.card_format.specs.Checking.{CheckRight}
use Rattle.card_format.proofs.Checking.{check_right}
use Rattle.card_listing.specs.Cards.{card_outcome, card_listing}

length_into : (k : ℕ) (bs qs : List ℕ) → length (shares_into k bs qs) ≡ length qs
unfolding shares_into
length_into zero bs qs = refl
length_into (suc k) bs qs = length_into k (drop 4 bs) (set qs (number 0 2 bs) (number 2 2 bs)) ∙ length-set qs (number 0 2 bs) (number 2 2 bs)

shares_length : (n : ℕ) (w : List ℕ) → length (card_shares n w) ≡ n
unfolding card_shares
shares_length n w = length_into _ _ (replicate n 0) ∙ length-replicate n 0

-- a check that refuses nothing has files that are not refused
files_pass : (b s w : List ℕ) → check_refusal b s w 256 ≡ 0 → files_refusal b s ≡ 0
unfolding check_refusal_with
files_pass b s w h = sym (same_refusal b s) ∙ (both_zero (search_refusal b s 256) (card_refusal b s w) h).0

-- what the check promises holds of what is listed
same_check : (b s w : List ℕ) → check_refusal b s w 256 ≡ check_refusal b s w (length (card_shares (boats b) w))
unfolding check_refusal_with
same_check b s w = rw (same_refusal b s, long_enough b s (length (card_shares (boats b) w)) (λ ok. omega (arith, shares_length (boats b) w)))

pub listed_right : (b s w : List ℕ) → all_bytes w ≡ true → CheckRight b s w (card_outcome b s w) (card_shares (boats b) w)
listed_right b s w all = check_right plain_terms b s w (card_shares (boats b) w) all (same_check b s w) refl (sym (after_itself (check_refusal b s w 256) (card_shares (boats b) w)))

module _ (b s w slots : List ℕ) {r : Searched} (e : r ≡ outcome (check_refusal b s w 256) (card_answer b s w)) where
  pub check_listable : Listable b s r
  check_listable = rw e (listable b s (check_refusal b s w 256) (card_answer b s w) (files_pass b s w))

  pub check_number : refusal_number r ≡ check_refusal b s w 256
  check_number = ap refusal_number e ∙ outcome_number (check_refusal b s w 256) (card_answer b s w)

  pub check_listed : {now : List ℕ} {t : Text} → now ≡ slots_after (check_refusal b s w 256) (card_shares (boats b) w) slots → Holds (outcome_listing b s r now) t → Holds (card_listing b s w) t
  unfolding card_listing
  check_listed {now} {t} f h =
      let k : outcome_listing b s r now ≡ card_listing b s w =
      rw (e, f) (same_listing b s slots (card_shares (boats b) w) (card_answer b s w) (check_refusal b s w 256) (λ p. shares_length (boats b) w)) in
      rw k at h
