-- The loops that add lines: the boats', the stretches'. Each invariant says that the lines that are left make the text of all lines.
use mathlib.Core.Path.{◌≡◌, refl, sym, ap, ◌∙◌}
use mathlib.Core.List.{List, [], append-nil}
use Prim.Native.Nat.{ℕ, suc, ◌+◌, ◌*◌, ◌-◌, ◌≤◌, ◌<◌}
use native.Mathlib.Nat.{add-zero}
use native.Mathlib.Numerals.{add-one}
use native.Mathlib.Omega.{arith}
use lib.ListN.{length, drop}
use Rattle.frank_wolfe.specs.Vectors.{sum}
use Rattle.text.specs.declared.Text.{Text}
use Rattle.text.specs.Lines.{number_line, pair_line}
use Rattle.text.specs.Texts.{text_limit, Holds, Adds}
use Rattle.text.proofs.Texts.{adds_both, adds_to_empty}
use Rattle.listing.specs.Lines.{boat_line, boat_lines}
use Rattle.leaning.specs.Report.{cards_on, counts_from, counts, most_used, total_word, stretch_word, stretch, stretches, stretch_lines, lean_lines}
use Rattle.leaning.specs.Slots.{parts}
use Rattle.leaning.proofs.Lengths.{boat_length, stretch_length}
use Rattle.leaning.proofs.Parts.{parts_length, parts_within}

adds_nothing : {t : Text} → t.len ≤ text_limit → Adds t [] t
adds_nothing {t} h = record { fits = h; length_is = sym (add-zero t.len); bytes_are = sym (append-nil _); rest = refl }

-- ---- Boats

-- of the cards qs, after the first i boats
pub record BoatsAdded (t : Text) (qs : List (List ℕ)) (boats : ℕ) (u : Text) (i : ℕ) : Type 0 where
  pub reached : i ≤ boats
  pub few : boats ≤ 256
  pub room : u.len ≤ 12 * i
  pub left : {v : Text} → Adds u (boat_lines i (counts_from i (boats - i) qs)) v → Adds t (boat_lines 0 (counts boats qs)) v

module _ {t : Text} {qs : List (List ℕ)} {boats : ℕ} where
  pub boats_start : boats ≤ 256 → t.len ≡ 0 → BoatsAdded t qs boats t 0
  boats_start f r = let e : boats - 0 ≡ boats = omega arith in record { reached = omega arith; few = f; room = omega arith; left = λ a. rw e at a }

  pub boats_more : {u v : Text} {i x : ℕ} → BoatsAdded t qs boats u i → i < boats → x ≡ cards_on i qs → x ≤ 64 → Adds u (boat_line i x) v → BoatsAdded t qs boats v (i + 1)
  unfolding boat_lines counts_from
  boats_more {u} {v} {i} {x} b h e k p =
      let f : boats - i ≡ suc (boats - suc i) = omega arith in
      record {
        reached = omega arith;
        few = b.few;
        room = omega (arith, b.room, p.length_is, boat_length i x (omega (arith, b.few)) k);
        left = λ a. b.left (rw (f, ← e) (adds_both p (rw add-one at a)));
      }

  pub boats_end : {u : Text} {i : ℕ} → BoatsAdded t qs boats u i → boats ≤ i → Adds t (boat_lines 0 (counts boats qs)) u × (u.len ≤ 3072)
  unfolding boat_lines counts_from
  boats_end {u} {i} b h =
      let e : boats - i ≡ 0 = omega arith in
      (b.left (rw e (adds_nothing (omega (arith, b.room, b.reached, b.few)))), omega (arith, b.room, b.reached, b.few))

-- ---- Stretches

-- of so many cards in the slots, after the first i stretches
pub record StretchesAdded (t : Text) (slots : List ℕ) (cards boats : ℕ) (u : Text) (i : ℕ) : Type 0 where
  pub reached : i ≤ stretches cards
  pub few_cards : cards ≤ 64
  pub some_boats : 1 ≤ boats
  pub few_boats : boats ≤ 256
  pub slots_room : 256 * cards ≤ length slots
  pub room : u.len ≤ 3099 + 15 * i
  pub left : {v : Text} → Adds u (stretch_lines boats (parts cards boats slots) (stretches cards - i) i) v → Adds t (stretch_lines boats (parts cards boats slots) (stretches cards) 0) v

module _ {t : Text} {slots : List ℕ} {cards boats : ℕ} where
  pub stretches_start : (cards ≤ 64) × (1 ≤ boats) × (boats ≤ 256) × (256 * cards ≤ length slots) × (t.len ≤ 3099) → StretchesAdded t slots cards boats t 0
  stretches_start p =
      let e : stretches cards - 0 ≡ stretches cards = omega arith in
      record { reached = omega arith; few_cards = p.0; some_boats = p.1; few_boats = p.2; slots_room = p.3; room = omega (arith, p.4); left = λ a. rw e at a }

  pub stretches_more : {u v : Text} {i x : ℕ} → StretchesAdded t slots cards boats u i → i + 12 ≤ cards → (x ≡ most_used boats (parts 12 boats (drop (256 * i) slots))) × (x < 256) →
      Adds u (pair_line stretch_word (i + 1) x) v → StretchesAdded t slots cards boats v (i + 1)
  unfolding stretch_lines
  stretches_more {u} {v} {i} {x} b h e p =
      let f : stretches cards - i ≡ suc (stretches cards - suc i) = omega arith in
      let q : Adds u (pair_line stretch_word (suc i) x) v = rw add-one at p in
      let w : x ≡ most_used boats (stretch i (parts cards boats slots)) = e.0 ∙ ap (most_used boats) (sym (parts_within i 12 cards boats slots h)) in
      record {
        reached = omega arith;
        few_cards = b.few_cards;
        some_boats = b.some_boats;
        few_boats = b.few_boats;
        slots_room = b.slots_room;
        room = omega (arith, b.room, q.length_is, stretch_length i x (omega (arith, b.few_cards)) e.1);
        left = λ a. b.left (rw (f, ← w) (adds_both q (rw add-one at a)));
      }

  pub stretches_end : {u : Text} {i : ℕ} → StretchesAdded t slots cards boats u i → cards < i + 12 → Adds t (stretch_lines boats (parts cards boats slots) (stretches cards) 0) u
  unfolding stretch_lines
  stretches_end {u} {i} b h =
      let e : stretches cards - i ≡ 0 = omega arith in
      b.left (rw e (adds_nothing (omega (arith, b.room, b.reached, b.few_cards))))

-- ---- All lines

pub lines_hold : {t u v w : Text} (slots : List ℕ) (cards boats : ℕ) {x : ℕ} → Holds [] t → Adds t (boat_lines 0 (counts boats (parts cards boats slots))) u →
    x ≡ sum (counts boats (parts cards boats slots)) → Adds u (number_line total_word x) v →
    Adds v (stretch_lines boats (parts cards boats slots) (stretches cards) 0) w → Holds (lean_lines boats (sum (counts boats (parts cards boats slots))) (parts cards boats slots)) w
unfolding lean_lines
lines_hold slots cards boats o p e q r = rw (parts_length cards boats slots, ← e) (adds_to_empty o (adds_both p (adds_both q r)))
