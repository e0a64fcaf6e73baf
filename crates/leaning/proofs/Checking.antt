-- The laws behind checking card by card: the refusal so far, before the first card and with one card more.
use mathlib.Core.Path.{◌≡◌, refl, sym, ap, ◌∙◌}
use mathlib.Core.Bool.{Bool, true, false, cond}
use mathlib.Core.List.{List, [], ◌∷◌, ◌++◌}
use Prim.Native.Nat.{ℕ, zero, suc, ◌+◌, ◌*◌, ◌-◌, ◌≤◌}
use native.Mathlib.Omega.{arith}
use borrow.Author.Tests.{ne_eqb}
use lib.Dec.{eqb, eqb-suc-zero}
use lib.ListN.{length, take, drop, length-append}
use lib.Seq.{length-take-le}
use Rattle.files.specs.Bytes.{between}
use Rattle.files.specs.Book.{boats, book_refusal}
use Rattle.files.proofs.Refusal.{between_true}
use Rattle.files.proofs.Accepted.{book_accepted}
use Rattle.method.specs.Answers.{slots_after}
use Rattle.method.proofs.Promise.{length_after}
use Rattle.card_format.specs.Format.{card_shares}
use Rattle.card_format.specs.Checks.{check_refusal}
use Rattle.card_format.proofs.Accepted.{both_zero}
use Rattle.leaning.specs.Report.{Pair, most_cards, pair_refusal, pairs_refusal, start_refusal, refusal_so_far, shares_of}
use Rattle.leaning.specs.Slots.{card_slots, parts, Starts, AddsPair}
use Rattle.leaning.proofs.Counts.{shares_length, pair_checked}
use Rattle.leaning.proofs.Parts.{parts_put}

-- ---- Lists of pairs

-- the first of three numbers that is not 0
first_of_three : (x y z : ℕ) → cond (eqb x 0) (cond (eqb y 0) z y) x ≡ cond (eqb (cond (eqb x 0) y x) 0) z (cond (eqb x 0) y x)
first_of_three zero y z = refl
first_of_three (suc x) y z = rw (eqb-suc-zero x, eqb-suc-zero x)

pairs_append : (b : List ℕ) (ps rest : List Pair) → pairs_refusal b (ps ++ rest) ≡ cond (eqb (pairs_refusal b ps) 0) (pairs_refusal b rest) (pairs_refusal b ps)
unfolding pairs_refusal
pairs_append b [] rest = refl
pairs_append b (p ∷ ps) rest =
    ap (λ (n : ℕ). cond (eqb (pair_refusal b p) 0) n (pair_refusal b p)) (pairs_append b ps rest) ∙ first_of_three (pair_refusal b p) (pairs_refusal b ps) (pairs_refusal b rest)

pub shares_append : (b : List ℕ) (ps rest : List Pair) → shares_of b (ps ++ rest) ≡ shares_of b ps ++ shares_of b rest
unfolding shares_of
shares_append b [] rest = refl
shares_append b (p ∷ ps) rest = ap (λ (l : List (List ℕ)). card_shares (boats b) p.card ∷ l) (shares_append b ps rest)

pub shares_count : (b : List ℕ) (ps : List Pair) → length (shares_of b ps) ≡ length ps
unfolding shares_of
shares_count b [] = refl
shares_count b (p ∷ ps) = ap suc (shares_count b ps)

-- a refusal stands, whatever comes behind
pub refusal_stays : (b : List ℕ) (n : ℕ) (ps rest : List Pair) → (refusal_so_far b n ps ≡ 0 → ⊥) → refusal_so_far b n (ps ++ rest) ≡ refusal_so_far b n ps
unfolding refusal_so_far
refusal_stays b n ps rest h = by (start_refusal b n) h
  where
    by : (r : ℕ) → (cond (eqb r 0) (pairs_refusal b ps) r ≡ 0 → ⊥) → cond (eqb r 0) (pairs_refusal b (ps ++ rest)) r ≡ cond (eqb r 0) (pairs_refusal b ps) r
    by zero h = pairs_append b ps rest ∙ rw (ne_eqb (pairs_refusal b ps) 0 h)
    by (suc r) h = rw (eqb-suc-zero r)

-- where nothing refuses so far
pub record Passed (b : List ℕ) (n : ℕ) (ps : List Pair) : Type 0 where
  pub start : start_refusal b n ≡ 0
  pub book : book_refusal b ≡ 0
  pub some : 1 ≤ n
  pub few : n ≤ 64
  pub pairs : pairs_refusal b ps ≡ 0

pub start_passed : (b : List ℕ) (n : ℕ) → start_refusal b n ≡ 0 → (book_refusal b ≡ 0) × ((1 ≤ n) × (n ≤ most_cards))
unfolding start_refusal
start_passed b n e =
    let h = both_zero (book_refusal b) (cond (between 1 most_cards n) 0 58) e in
    (h.0, by (between 1 most_cards n) refl h.1)
  where
    by : (t : Bool) → between 1 most_cards n ≡ t → ◌≡◌ {A = ℕ} (cond t 0 58) 0 → (1 ≤ n) × (n ≤ most_cards)
    by true t e = between_true 1 most_cards n t
    by false t e = absurd (omega arith)

pub so_far_passed : (b : List ℕ) (n : ℕ) (ps : List Pair) → refusal_so_far b n ps ≡ 0 → Passed b n ps
unfolding refusal_so_far
so_far_passed b n ps e =
    let h = both_zero (start_refusal b n) (pairs_refusal b ps) e in
    let k = start_passed b n h.0 in
    record { start = h.0; book = k.0; some = k.1.0; few = omega (arith, k.1.1); pairs = h.1 }

-- ---- Before the first card

pub starts : (b : List ℕ) (n : ℕ) → Starts b n (start_refusal b n)
unfolding refusal_so_far pairs_refusal parts shares_of
starts b n slots l =
    record {
      refusal_is = sym (by (start_refusal b n));
      room = λ e. omega (arith, (start_passed b n e).1.1);
      shares_are = λ e. refl;
    }
  where
    by : (r : ℕ) → cond (eqb r 0) 0 r ≡ r
    by zero = refl
    by (suc r) = rw (eqb-suc-zero r)

-- ---- One card more

-- behind pairs that are not refused its refusal is the first
one_refused : (b : List ℕ) (n : ℕ) (ps : List Pair) (p : Pair) → Passed b n ps → refusal_so_far b n (ps ++ (p ∷ [])) ≡ pair_refusal b p
unfolding refusal_so_far
one_refused b n ps p h = rw (h.start, pairs_append b ps (p ∷ []), h.pairs) (alone (pair_refusal b p) refl)
  where
    alone : (r : ℕ) → pair_refusal b p ≡ r → pairs_refusal b (p ∷ []) ≡ r
    alone zero e = unfold pairs_refusal in rw e
    alone (suc r) e = unfold pairs_refusal in rw (e, eqb-suc-zero r)

length_one : (ps : List Pair) (p : Pair) → length (ps ++ (p ∷ [])) ≡ suc (length ps)
length_one ps p = length-append ps (p ∷ []) ∙ (omega arith)

module _ (b : List ℕ) (p : Pair) (k : ℕ) (slots : List ℕ) where
  pub adds_pair : {r : ℕ} {now : List ℕ} → r ≡ check_refusal b p.sheet p.card (length slots - card_slots * k) →
      now ≡ slots_after r (take (card_slots * k) slots ++ card_shares (boats b) p.card) slots →
      AddsPair b p k slots r now
  unfolding slots_after shares_of
  adds_pair {r} {now} er ew n ps c count below =
      let h : Passed b n ps = so_far_passed b n ps (sym c.refusal_is) in
      let fits = book_accepted b h.book in
      let room : card_slots * n ≤ length slots = c.room refl in
      let inside : card_slots * k + boats b ≤ length slots = omega (arith, fits.most_boats) in
      let size : length (card_shares (boats b) p.card) ≡ boats b = shares_length (boats b) p.card in
      let whole : length (take (card_slots * k) slots ++ card_shares (boats b) p.card) ≡ card_slots * k + boats b =
      length-append (take (card_slots * k) slots) _ ∙ rw (length-take-le (card_slots * k) slots (omega arith), size) in
      let same : length now ≡ length slots = ap length ew ∙ length_after r (take (card_slots * k) slots ++ card_shares (boats b) p.card) slots (λ z. rw whole inside) in
      record {
        refusal_is = er ∙ pair_checked b p (length slots - card_slots * k) h.book (omega (arith, fits.most_boats)) ∙ sym (one_refused b n ps p h);
        room = λ z. rw same room;
        shares_are = λ z.
            rw (length_one ps p, shares_append b ps (p ∷ []), count, ew, z)
            (parts_put k (boats b) (card_shares (boats b) p.card) slots (drop (length (take (card_slots * k) slots ++ card_shares (boats b) p.card)) slots) (omega arith) size fits.most_boats
            ∙ rw (← count, c.shares_are refl));
      }
