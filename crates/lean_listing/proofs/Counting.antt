-- The loops that count: the cards on a boat, the boat that most cards rest on, the total. Each invariant says that what is left decides as the whole.
use mathlib.Core.Path.{◌≡◌, refl, sym, ◌∙◌}
use mathlib.Core.Bool.{cond}
use mathlib.Core.List.{List}
use Prim.Native.Nat.{ℕ, suc, ◌+◌, ◌*◌, ◌-◌, ◌≤◌, ◌<◌}
use native.Mathlib.Numerals.{add-one}
use native.Mathlib.Omega.{arith}
use borrow.Author.Tests.{lt-ltb, le-ltb}
use lib.Dec.{eqb}
use lib.ListN.{length, drop, get_or}
use lib.Seq.{drop-drop, get_or-take, get_or-drop}
use Rattle.frank_wolfe.specs.Vectors.{sum}
use Rattle.leaning.specs.Report.{cards_on, counts_from, counts, argmax_from, argmax, most_used}
use Rattle.leaning.specs.Slots.{parts}

-- ---- The cards on a boat

-- after k of so many cards
pub record Counted (slots : List ℕ) (start cards boat count k : ℕ) : Type 0 where
  pub reached : k ≤ cards
  pub few_cards : cards ≤ 64
  pub few_boats : boat < 256
  pub room : start + 256 * cards ≤ length slots
  pub most : count ≤ k
  pub left : (n : ℕ) → boat < n → cards_on boat (parts cards n (drop start slots)) ≡ count + cards_on boat (parts (cards - k) n (drop (start + 256 * k) slots))

-- the first card of some
one_card : (boat n m at : ℕ) (slots : List ℕ) → boat < n →
    cards_on boat (parts (suc m) n (drop at slots)) ≡ cond (eqb (get_or slots (at + boat) 0) 0) 0 1 + cards_on boat (parts m n (drop (at + 256) slots))
unfolding parts cards_on
one_card boat n m at slots h = rw (get_or-take n (drop at slots) boat 0 h, get_or-drop at slots boat 0, drop-drop 256 at slots)

module _ {slots : List ℕ} {start cards boat : ℕ} where
  pub counted_start : (boat < 256) × (cards ≤ 64) × (start + 256 * cards ≤ length slots) → Counted slots start cards boat 0 0
  counted_start p =
      let e : cards - 0 ≡ cards = omega arith in
      let f : start + 256 * 0 ≡ start = omega arith in
      record { reached = omega arith; few_cards = p.1; few_boats = p.0; room = p.2; most = omega arith; left = λ n h. rw (e, f) (omega arith) }

  pub counted_more : {count k x : ℕ} → Counted slots start cards boat count k → k < cards →
      (x ≡ cond (eqb (get_or slots (start + 256 * k + boat) 0) 0) 0 1) × (x ≤ 1) → Counted slots start cards boat (count + x) (k + 1)
  counted_more {count} {k} {x} c h p =
      let e : cards - k ≡ suc (cards - (k + 1)) = omega arith in
      let f : start + 256 * k + 256 ≡ start + 256 * (k + 1) = omega arith in
      record {
        reached = omega arith;
        few_cards = c.few_cards;
        few_boats = c.few_boats;
        room = c.room;
        most = omega (arith, c.most, p.1);
        left = λ n g. c.left n g ∙ (rw (e, one_card boat n (cards - (k + 1)) (start + 256 * k) slots g, f, ← p.0) (omega arith));
      }

  pub counted_end : {count k : ℕ} → Counted slots start cards boat count k → cards ≤ k →
      ((n : ℕ) → boat < n → count ≡ cards_on boat (parts cards n (drop start slots))) × (count ≤ cards)
  counted_end {count} {k} c h =
      let e : cards - k ≡ 0 = omega arith in
      (λ n g. sym (c.left n g ∙ rw e (none n)), omega (arith, c.most, c.reached))
    where
      none : (n : ℕ) → count + cards_on boat (parts 0 n (drop (start + 256 * k) slots)) ≡ count
      none n = unfold parts cards_on in omega arith

-- ---- The boat that most cards rest on

-- after the first i boats, of the cards qs
pub record Led (qs : List (List ℕ)) (boats best greatest i : ℕ) : Type 0 where
  pub reached : i ≤ boats
  pub inside : best < 256
  pub left : most_used boats qs ≡ argmax_from i best greatest (counts_from i (boats - i) qs)

module _ {qs : List (List ℕ)} {boats : ℕ} where
  pub led_start : Led qs boats 0 0 0
  led_start = let e : boats - 0 ≡ boats = omega arith in record { reached = omega arith; inside = omega arith; left = rw e (unfold most_used argmax in refl) }

  module _ {best greatest i x : ℕ} (l : Led qs boats best greatest i) (h : i < boats) (few : boats ≤ 256) (is : x ≡ cards_on i qs) where
    next : boats - i ≡ suc (boats - suc i)
    next = omega arith

    pub led_over : greatest < x → Led qs boats i x (i + 1)
    unfolding counts_from argmax_from
    led_over g =
        record {
          reached = omega arith;
          inside = omega arith;
          left = l.left ∙ rw (next, ← is, lt-ltb greatest x g, add-one);
        }

    pub led_still : x ≤ greatest → Led qs boats best greatest (i + 1)
    unfolding counts_from argmax_from
    led_still g =
        record {
          reached = omega arith;
          inside = l.inside;
          left = l.left ∙ rw (next, ← is, le-ltb greatest x g, add-one);
        }

  pub led_end : {best greatest i : ℕ} → Led qs boats best greatest i → boats ≤ i → (best ≡ most_used boats qs) × (best < 256)
  unfolding counts_from argmax_from
  led_end {best} {greatest} {i} l h = let e : boats - i ≡ 0 = omega arith in (sym (rw e at l.left), l.inside)

-- ---- The total

pub record Totalled (qs : List (List ℕ)) (boats total i : ℕ) : Type 0 where
  pub reached : i ≤ boats
  pub few : boats ≤ 256
  pub most : total ≤ 64 * i
  pub left : sum (counts boats qs) ≡ total + sum (counts_from i (boats - i) qs)

module _ {qs : List (List ℕ)} {boats : ℕ} where
  pub totalled_start : boats ≤ 256 → Totalled qs boats 0 0
  totalled_start h = let e : boats - 0 ≡ boats = omega arith in record { reached = omega arith; few = h; most = omega arith; left = rw e (omega arith) }

  pub totalled_more : {total i x : ℕ} → Totalled qs boats total i → i < boats → x ≡ cards_on i qs → x ≤ 64 → Totalled qs boats (total + x) (i + 1)
  unfolding counts_from sum
  totalled_more {total} {i} {x} t h e k =
      let f : boats - i ≡ suc (boats - suc i) = omega arith in
      record { reached = omega arith; few = t.few; most = omega (arith, t.most); left = t.left ∙ rw (f, ← e, add-one) (omega arith) }

  pub totalled_end : {total i : ℕ} → Totalled qs boats total i → boats ≤ i → total ≡ sum (counts boats qs)
  unfolding counts_from sum
  totalled_end {total} {i} t h = let e : boats - i ≡ 0 = omega arith in sym (t.left ∙ rw e (omega arith))
