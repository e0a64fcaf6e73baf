-- A card checked into the slots behind those of others: what `lean_card` gives back and leaves.
use mathlib.Core.Path.{◌≡◌, sym, ◌∙◌}
use mathlib.Core.List.{List, [], ◌++◌, append_assoc, append-nil}
use Prim.Native.Nat.{ℕ, zero, suc, ◌+◌, ◌*◌, ◌-◌, ◌≤◌}
use native.Mathlib.Omega.{arith}
use borrow.Rule.Slice.PartMut.{put_mid, post_of, Post-is}
use lib.ListN.{length, take, drop, length-append, length-drop, take-append-drop}
use lib.Seq.{take_all, drop-length, drop-drop, length-take-le}
use Rattle.files.specs.Book.{boats}
use Rattle.files.proofs.Accepted.{files_accepted}
use Rattle.method.specs.declared.Answer.{Answer}
use Rattle.method.specs.Searched.{Searched}
use Rattle.method.specs.Searched.{Refused, Answered}
use Rattle.method.specs.Problem.{plain_terms}
use Rattle.method.specs.Answers.{outcome, search_refusal, slots_after}
use Rattle.method.proofs.Promise.{search_accepted, outcome_refused, outcome_answered}
use Rattle.card_format.specs.Format.{card_shares, card_answer}
use Rattle.card_format.specs.Checks.{card_refusal, check_refusal, check_refusal_with}
use Rattle.card_format.proofs.Accepted.{both_zero}
use Rattle.leaning.specs.Report.{pair_of}
use Rattle.leaning.specs.Slots.{card_slots, AddsPair}
use Rattle.leaning.proofs.Checking.{adds_pair}

-- where the slots of a card start, 256 a card, or at the end
abbrev StartsAt : (len k at : ℕ) → Type 0
StartsAt len k at = (at ≤ len) × (len - at ≡ len - card_slots * k) × (card_slots * k ≤ len → at ≡ card_slots * k)

-- what the contract says of the number that is given back and of the slots
abbrev Given : (b s w slots : List ℕ) → (k r : ℕ) → (now : List ℕ) → Type 0
Given b s w slots k r now =
    (r ≡ check_refusal b s w (length slots - card_slots * k))
    × ((now ≡ slots_after r (take (card_slots * k) slots ++ card_shares (boats b) w) slots) × AddsPair b (pair_of s w) k slots r now)

-- what the check of the part behind `at` gives back and leaves there
abbrev Checks : (b s w slots : List ℕ) → (at : ℕ) → Searched → (part : List ℕ) → Type 0
Checks b s w slots at x p =
    let lent = take (length slots - at) (drop at slots) in
    (x ≡ outcome (check_refusal b s w (length lent)) (card_answer b s w)) × (p ≡ slots_after (check_refusal b s w (length lent)) (card_shares (boats b) w) lent)

module _ (b s w slots : List ℕ) (k at : ℕ) (start : StartsAt (length slots) k at) where
  part_is : take (length slots - at) (drop at slots) ≡ drop at slots
  part_is = take_all (length slots - at) (drop at slots) (omega (arith, length-drop at slots))

  part_length : length (take (length slots - at) (drop at slots)) ≡ length slots - card_slots * k
  part_length = rw (part_is, length-drop) start.1

  nothing_after : post_of at (length slots - at) slots ≡ []
  nothing_after = Post-is at (length slots) slots start.0 ∙ drop-length slots

  -- a card is accepted only where there are slots for its boats
  room : check_refusal b s w (length slots - card_slots * k) ≡ 0 → card_slots * k ≤ length slots
  unfolding check_refusal_with
  room e =
      let h = both_zero (search_refusal b s (length slots - card_slots * k)) (card_refusal b s w) e in
      let f = search_accepted plain_terms b s (length slots - card_slots * k) h.0 in
      omega (arith, f.1, (files_accepted b s f.0).0.some_boats)

  left : (n : ℕ) {p : List ℕ} → check_refusal b s w (length slots - card_slots * k) ≡ n → p ≡ slots_after n (card_shares (boats b) w) (drop at slots) →
      take at slots ++ p ≡ slots_after n (take (card_slots * k) slots ++ card_shares (boats b) w) slots
  unfolding slots_after
  left zero e f =
      let h : card_slots * k ≤ length slots = room e in
      let a : at ≡ card_slots * k = start.2 h in
      let qs = card_shares (boats b) w in
      let l : length (take (card_slots * k) slots ++ qs) ≡ card_slots * k + length qs =
      length-append (take (card_slots * k) slots) qs ∙ rw (length-take-le (card_slots * k) slots h) in
      rw (f, a, l, drop-drop (length qs) (card_slots * k) slots) (sym (append_assoc (take (card_slots * k) slots) qs (drop (card_slots * k + length qs) slots)))
  left (suc n) e f = rw f (take-append-drop at slots)

  pub given : (r : ℕ) {p : List ℕ} → check_refusal b s w (length (take (length slots - at) (drop at slots))) ≡ r →
      p ≡ slots_after (check_refusal b s w (length (take (length slots - at) (drop at slots)))) (card_shares (boats b) w) (take (length slots - at) (drop at slots)) →
      Given b s w slots k r (put_mid at (length slots - at) slots p)
  given r {p} e f =
      let n : check_refusal b s w (length slots - card_slots * k) ≡ r = rw part_length at e in
      let q : p ≡ slots_after r (card_shares (boats b) w) (drop at slots) = f ∙ rw (e, part_is) in
      let now : put_mid at (length slots - at) slots p ≡ slots_after r (take (card_slots * k) slots ++ card_shares (boats b) w) slots =
      rw (nothing_after, append-nil p) (left r n q) in
      (sym n, (now, adds_pair b (pair_of s w) k slots (sym n) now))

  pub given_refused : {x : Searched} {p : List ℕ} {m : ℕ} → Checks b s w slots at x p → x ≡ Refused m → {r : ℕ} → r ≡ m → Given b s w slots k r (put_mid at (length slots - at) slots p)
  given_refused {x} {p} {m} c e q = rw q (given m (outcome_refused _ m (card_answer b s w) (sym c.0 ∙ e)).0 c.1)

  pub given_answered : {x : Searched} {p : List ℕ} {a : Answer} → Checks b s w slots at x p → x ≡ Answered a → Given b s w slots k 0 (put_mid at (length slots - at) slots p)
  given_answered {x} {p} {a} c e = given 0 (outcome_answered _ (card_answer b s w) a (sym c.0 ∙ e)).0 c.1
