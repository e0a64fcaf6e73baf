-- The outcomes of `check_card_with`: refused by the terms or the files, a short share list, the card's form or its numbers, or answered.
use Rattle.std.specs.Prelude.{Option, None}
use mathlib.Core.Path.{◌≡◌, refl, sym, ap, ◌∙◌}
use mathlib.Core.Bool.{Bool, true, false, not, ◌&&◌, cond}
use mathlib.Core.List.{List, ◌∷◌, ◌++◌}
use Prim.Native.Nat.{ℕ, zero, suc, ◌+◌, ◌*◌, ◌-◌, ◌≤◌, ◌<◌}
use native.Mathlib.Omega.{arith}
use borrow.Author.Tests.{ltb-true, lt-ltb, le-ltb, not-true, not-false}
use lib.Dec.{eqb, ltb, leb, eqb-suc-zero}
use lib.ListN.{length, take, drop, set, replicate}
use lib.Seq.{take-set-lt, length-take-le}
use Rattle.files.specs.Bytes.{all_bytes, number}
use Rattle.files.specs.Book.{boats, columns}
use Rattle.files.specs.Sheet.{files_refusal}
use Rattle.files.proofs.Refusal.{and_true}
use Rattle.method.specs.declared.Answer.{Answer}
use Rattle.method.specs.Searched.{Searched}
use Rattle.method.specs.Searched.{Refused, Answered}
use Rattle.method.specs.declared.Released.{Released}
use Rattle.method.specs.ReleasedBoats.{Usable, usable, gather}
use Rattle.method.specs.Problem.{Terms, plain_terms, call_steps, call_problem}
use Rattle.method.specs.Calls.{terms_in, call_refusal}
use Rattle.method.proofs.Accepted.{files_ok}
use Rattle.method.specs.Answers.{outcome, search_refusal_with, slots_after}
use Rattle.method.specs.Bounds.{answer_of}
use Rattle.method.proofs.Promise.{outcome_refused, outcome_answered}
use Rattle.iteration.specs.declared.Layout.{Layout}
use Rattle.iteration.specs.States.{file_layout}
use Rattle.iteration.proofs.States.{book_fits}
use Rattle.card_format.specs.Format.{card_fields, card_test, pair_count, shares_into, card_shares, card_answer_with}
use Rattle.card_format.specs.Checks.{pairs_in_order, form_refusal, rests, truth_refusal, card_refusal_with, check_refusal_with}
use Rattle.card_format.specs.Checking.{CheckRightWith}
use Rattle.card_format.proofs.Pairs.{into_none, into_more}
use Rattle.card_format.proofs.Checking.{check_right}
use Rattle.card_pairs.proofs.Pairs.{boat_below, order_more}
use Rattle.card_input.proofs.Reading.{order_at, into_at, back_fours}
use Rattle.card_truth.proofs.Judging.{Formed, formed}

-- ---- The shares of the pairs

take_zeros : (n m : ℕ) → n ≤ m → take {A = ℕ} n (replicate m 0) ≡ replicate n 0
take_zeros zero m h = refl
take_zeros (suc n) zero h = absurd (omega arith)
take_zeros (suc n) (suc m) h = ap (λ l. 0 ∷ l) (take_zeros n m (omega arith))

-- pairs of boats below n leave later slots alone
take_into : (k next n : ℕ) (bs qs : List ℕ) → pairs_in_order k next n bs ≡ true → take n (shares_into k bs qs) ≡ shares_into k bs (take n qs)
take_into zero next n bs qs o = ap (take n) (into_none bs qs) ∙ sym (into_none bs (take n qs))
take_into (suc k) next n bs qs o =
    let below : number 0 2 bs < n = boat_below (suc k) next n 0 bs o (omega arith) in
    let rest = (and_true (leb next (number 0 2 bs) && (ltb (number 0 2 bs) n && ltb 0 (number 2 2 bs))) _ (rw order_more at o)).1 in
    rw (into_more k bs qs, into_more k bs (take n qs), take_into k (suc (number 0 2 bs)) n (drop 4 bs) (set qs (number 0 2 bs) (number 2 2 bs)) rest, take-set-lt n qs (number 0 2 bs) (number 2 2 bs) below)

-- boats below n are below m
order_wider : (k next n m : ℕ) (bs : List ℕ) → n ≤ m → pairs_in_order k next n bs ≡ true → pairs_in_order k next m bs ≡ true
order_wider k next n m bs h o = wide k next bs o
  where
    wide : (k next : ℕ) (bs : List ℕ) → pairs_in_order k next n bs ≡ true → pairs_in_order k next m bs ≡ true
    wide zero next bs o = unfold pairs_in_order in refl
    wide (suc k) next bs o =
        let p = and_true (leb next (number 0 2 bs) && (ltb (number 0 2 bs) n && ltb 0 (number 2 2 bs))) _ (rw order_more at o) in
        let q = and_true (leb next (number 0 2 bs)) _ p.0 in
        let t = and_true (ltb (number 0 2 bs) n) _ q.1 in
        let below : number 0 2 bs < n = ltb-true (number 0 2 bs) n t.0 in
        rw order_more (simp (q.0, lt-ltb (number 0 2 bs) m (omega arith), t.1, wide k (suc (number 0 2 bs)) (drop 4 bs) p.1))

module _ (m : Terms) (b s w : List ℕ) (ok : files_refusal b s ≡ 0) (f : form_refusal (boats b) (columns b) (call_steps m s) w ≡ 0) {k : ℕ} (ek : k ≡ pair_count w) where
  is_formed : Formed (boats b) (call_steps m s) w
  is_formed = formed (boats b) (columns b) (call_steps m s) w f

  in_order : pairs_in_order k 0 (boats b) (drop (length w - 36 - 4 * k) w) ≡ true
  in_order = rw ek (order_at is_formed.back ∙ is_formed.ordered)

  pub pairs_room : 4 * k ≤ length w - 36
  pairs_room = omega (arith, ek, back_fours is_formed.back, is_formed.back.inside)

  pub pairs_asked : (length w - 36 - 4 * k + 4 * k ≤ length w) × (pairs_in_order k 0 256 (drop (length w - 36 - 4 * k) w) ≡ true)
  pairs_asked = (omega (arith, pairs_room), order_wider k 0 (boats b) 256 (drop (length w - 36 - 4 * k) w) (book_fits b s ok).most_boats in_order)

  pub found_are : {found : List ℕ} → found ≡ shares_into k (drop (length w - 36 - 4 * k) w) (replicate 256 0) → take (boats b) found ≡ card_shares (boats b) w
  unfolding card_shares
  found_are e =
      ap (take (boats b)) e ∙ take_into k 0 (boats b) (drop (length w - 36 - 4 * k) w) (replicate 256 0) in_order
      ∙ rw (take_zeros (boats b) 256 (book_fits b s ok).most_boats, ek) (into_at is_formed.back (replicate (boats b) 0))

pub layout_boats : (b s : List ℕ) → files_refusal b s ≡ 0 → {l : Layout} → l ≡ file_layout b s → l.boats ≤ 256
unfolding file_layout
layout_boats b s ok e = rw e (book_fits b s ok).most_boats

-- ---- Outcomes

module _ (set : Released) (table : Option (List ℕ)) (b s w slots : List ℕ) where
  abbrev m : Terms
  m = terms_in set table

  abbrev u : Usable
  u = usable set

  -- what the check gives back and leaves in the list, by the refusal number
  abbrev Gives : (refusal : ℕ) → Searched → List ℕ → Type 0
  Gives n r now = (r ≡ outcome n (card_answer_with m b s w)) × (now ≡ slots_after n (card_shares (boats b) w) slots)

  -- and what is promised of it, of a card of bytes
  pub promised : all_bytes w ≡ true → {r : Searched} {now : List ℕ} → Gives (check_refusal_with m b s w (length slots)) r now →
      (r ≡ outcome (check_refusal_with m b s w (length slots)) (card_answer_with m b s w))
      × ((now ≡ slots_after (check_refusal_with m b s w (length slots)) (card_shares (boats b) w) slots)
      × (CheckRightWith m b s w r now × (set.limited ≡ false → table ≡ None → m ≡ plain_terms)))
  promised all g = (g.0, (g.1, (check_right m b s w slots all refl g.0 g.1, λ e f. rw (e, f))))

  refused : (n : ℕ) → (n ≡ 0 → ⊥) → Gives n (Refused n) slots
  unfolding outcome slots_after
  refused zero h = absurd (h refl)
  refused (suc n) h = (refl, refl)

  refused_by : (n : ℕ) → n ≡ call_refusal m b s → (n ≡ 0 → ⊥) → Gives (check_refusal_with m b s w (length slots)) (Refused n) slots
  unfolding check_refusal_with search_refusal_with
  refused_by zero e h = absurd (h refl)
  refused_by (suc n) e h = rw (← e, eqb-suc-zero n, eqb-suc-zero n) (refused (suc n) h)

  pub refused_by_call : {r : Searched} (n : ℕ) → n ≡ call_refusal m b s → (n ≡ 0 → ⊥) → r ≡ Refused n → Gives (check_refusal_with m b s w (length slots)) r slots
  refused_by_call n e h q = rw q (refused_by n e h)

  module _ (ok : call_refusal m b s ≡ 0) {y : Layout} (el : y ≡ file_layout b s) where
    pub refused_short : length slots < y.boats → Gives (check_refusal_with m b s w (length slots)) (Refused 21) slots
    unfolding check_refusal_with search_refusal_with outcome slots_after file_layout
    refused_short h = let k : ltb (length slots) (boats b) ≡ true = lt-ltb (length slots) (boats b) (rw el at h) in rw (ok, k) (refl, refl)

    module _ (room : y.boats ≤ length slots) where
      by_card : check_refusal_with m b s w (length slots) ≡ card_refusal_with m b s w
      unfolding check_refusal_with search_refusal_with file_layout
      by_card = let k : ltb (length slots) (boats b) ≡ false = le-ltb (length slots) (boats b) (rw el at room) in rw (ok, k)

      card_parts : card_refusal_with m b s w ≡
          cond (eqb (form_refusal (boats b) (columns b) (call_steps m s) w) 0)
          (cond (not (rests u (card_shares (boats b) w))) 36 (truth_refusal (call_problem m b s) (gather u (card_shares (boats b) w)) w)) (form_refusal (boats b) (columns b) (call_steps m s) w)
      unfolding card_refusal_with
      card_parts = refl

      -- the form as the code has it
      module _ {n c k : ℕ} (ec : c ≡ y.columns) (ek : k ≡ call_steps m s) (en : n ≡ form_refusal y.boats c k w) where
        form_is : n ≡ form_refusal (boats b) (columns b) (call_steps m s) w
        unfolding file_layout
        form_is = en ∙ rw (ec, ek, el)

        pub refused_by_form : {r : Searched} → (n ≡ 0 → ⊥) → r ≡ Refused n → Gives (check_refusal_with m b s w (length slots)) r slots
        refused_by_form h q = rw q (by n form_is h)
          where
            by : (n : ℕ) → n ≡ form_refusal (boats b) (columns b) (call_steps m s) w → (n ≡ 0 → ⊥) → Gives (check_refusal_with m b s w (length slots)) (Refused n) slots
            by zero e h = absurd (h refl)
            by (suc n) e h = rw (by_card, card_parts, ← e, eqb-suc-zero n) (refused (suc n) h)

        module _ (zn : n ≡ 0) where
          pub form_zero : form_refusal (boats b) (columns b) (call_steps m s) w ≡ 0
          form_zero = sym form_is ∙ zn

          -- shares that are the card's, and whether they rest on boats that may be used
          module _ (found : List ℕ) (ef : take (boats b) found ≡ card_shares (boats b) w) {t : Bool} (et : t ≡ rests u (take y.boats found)) where
            rests_is : rests u (card_shares (boats b) w) ≡ t
            unfolding file_layout
            rests_is = sym (et ∙ rw (el, ef))

            pub refused_by_rests : not t ≡ true → Gives (check_refusal_with m b s w (length slots)) (Refused 36) slots
            unfolding outcome slots_after
            refused_by_rests h =
                let e : check_refusal_with m b s w (length slots) ≡ 36 = by_card ∙ card_parts ∙ rw (form_zero, rests_is, not-true t h) in
                rw e (refl, refl)

            module _ (h : not t ≡ false) where
              by_truth : check_refusal_with m b s w (length slots) ≡ truth_refusal (call_problem m b s) (gather u (card_shares (boats b) w)) w
              by_truth = by_card ∙ card_parts ∙ rw (form_zero, rests_is, not-false t h)

              -- a judgement by them
              abbrev Judged : Searched → Type 0
              Judged r =
                  r ≡ outcome (truth_refusal (call_problem m b s) (gather u (take (boats b) found)) w) (answer_of (card_test w) (call_problem m b s) (gather u (take (boats b) found)) (card_fields w).steps)

              own : {r : Searched} → Judged r → outcome (truth_refusal (call_problem m b s) (gather u (card_shares (boats b) w)) w) (card_answer_with m b s w) ≡ r
              unfolding card_answer_with
              own e = sym (rw ef at e)

              pub refused_by_truth : {r : Searched} (j : ℕ) → Judged (Refused j) → r ≡ Refused j → Gives (check_refusal_with m b s w (length slots)) r slots
              refused_by_truth j e q =
                  let p = outcome_refused (truth_refusal (call_problem m b s) (gather u (card_shares (boats b) w)) w) j (card_answer_with m b s w) (own e) in
                  rw (q, by_truth, p.0) (refused j (λ z. omega (arith, p.1)))

              module _ (lf : length found ≡ 256) where
                found_count : length (card_shares (boats b) w) ≡ boats b
                found_count = sym (ap length ef) ∙ length-take-le (boats b) found (omega (arith, (book_fits b s (files_ok m b s ok)).most_boats))

                pub answered : {now : List ℕ} → now ≡ take y.boats found ++ drop y.boats slots → (a : Answer) → Judged (Answered a) →
                    Gives (check_refusal_with m b s w (length slots)) (Answered a) now
                unfolding outcome slots_after file_layout
                answered {now} e a q =
                    let p = outcome_answered (truth_refusal (call_problem m b s) (gather u (card_shares (boats b) w)) w) (card_answer_with m b s w) a (own q) in
                    let r : now ≡ card_shares (boats b) w ++ drop (boats b) slots = e ∙ rw (el, ef) in
                    rw (by_truth, p.0, ← p.1) (refl, r ∙ rw found_count)
