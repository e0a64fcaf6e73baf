-- What is chosen of two cards is as promised.
use mathlib.Core.Path.{◌≡◌, refl, sym, ap, ◌∙◌}
use mathlib.Core.Bool.{Bool, true, false, cond}
use mathlib.Core.Logic.{◌↔◌}
use mathlib.Core.List.{List, []}
use Prim.Native.Nat.{ℕ, zero, suc, ◌+◌, ◌*◌, ◌≤◌, ◌<◌}
use native.Mathlib.Nat.{zero-add}
use native.Mathlib.Omega.{arith}
use borrow.Author.Tests.{ltb-true, ltb-false}
use lib.Dec.{eqb, eqb-suc-zero}
use lib.ListN.{length, length-append}
use lib.Seq.{take_all}
use Rattle.method.specs.Problem.{plain_terms}
use Rattle.files.specs.Bytes.{all_bytes}
use Rattle.files.specs.Sheet.{files_refusal}
use Rattle.files.specs.Editions.{Editions}
use Rattle.files.specs.Front.{SameBook, SameSheet, FilesAlike, FilesFrontUnread}
use Rattle.files.proofs.Front.{files_front_unread}
use Rattle.method.proofs.Promise.{same_files}
use Rattle.method.specs.declared.Answer.{Answer}
use Rattle.method.specs.Searched.{Searched}
use Rattle.method.specs.Searched.{Refused, Answered}
use Rattle.method.specs.Answers.{outcome, search_refusal}
use Rattle.method.specs.Fractions.{◌≤ℚ◌, ◌<ℚ◌}
use Rattle.method.proofs.Promise.{outcome_refused, outcome_answered}
use Rattle.listing.proofs.Outcomes.{same_refusal}
use Rattle.card_format.specs.Format.{card_fields, card_answer}
use Rattle.card_format.specs.Checks.{card_refusal, check_refusal, check_refusal_with}
use Rattle.card_format.specs.Truth.{CardTrue, AcceptedExactly}
use Rattle.card_format.specs.Front.{SameCard, CardsAlike, CardFrontUnread}
use Rattle.card_format.proofs.Editions.{same_card_refusal, same_card_answer}
use Rattle.card_format.proofs.Front.{card_front_unread}
use Rattle.card_format.proofs.Accepted.{both_zero}
use Rattle.card_format.proofs.Vouches.{accepted_exactly}
use Rattle.better_card_promise.specs.declared.Choice.{Choice}
use Rattle.better_card_promise.specs.Choices.{better_refusal, nearer, better_number, numbered, better, front_length, bare, better_part, better_place, part_of, place_of, bare_choice, no_choice, choice}
use Rattle.better_card_promise.specs.Promise.{IsDistance, PartRight, BetterRight}
use Rattle.better_card_promise.proofs.Distances.{squared_distance, at_most, less}
use Rattle.better_card_promise.proofs.Bare.{bare_behind, front_of, ends, inside, size, reads_back, own_distance}

-- ---- The refusal

-- the files are tested with the first card, or with each
in_turn : (f m n : ℕ) → cond (eqb f 0) (cond (eqb m 0) n m) f ≡ cond (eqb (cond (eqb f 0) m f) 0) (cond (eqb f 0) n f) (cond (eqb f 0) m f)
in_turn zero m n = refl
in_turn (suc f) m n = simp (eqb-suc-zero f)

module _ (b s x y : List ℕ) where
  -- as the check refuses, with a list of 256 slots, which serves any book
  pub as_checked : better_refusal b s x y ≡ cond (eqb (check_refusal b s x 256) 0) (check_refusal b s y 256) (check_refusal b s x 256)
  unfolding better_refusal check_refusal_with
  as_checked = simp (same_refusal b s) (in_turn (files_refusal b s) (card_refusal b s x) (card_refusal b s y))

  pub accepted : better_refusal b s x y ≡ 0 → (files_refusal b s ≡ 0) × ((card_refusal b s x ≡ 0) × (card_refusal b s y ≡ 0))
  unfolding better_refusal
  accepted e =
      let p = both_zero (files_refusal b s) (cond (eqb (card_refusal b s x) 0) (card_refusal b s y) (card_refusal b s x)) e in
      (p.0, both_zero (card_refusal b s x) (card_refusal b s y) p.1)

  refusal_after : files_refusal b s ≡ 0 → card_refusal b s x ≡ 0 → better_refusal b s x y ≡ card_refusal b s y
  unfolding better_refusal
  refusal_after f g = rw (f, g)

  refused_first : {n : ℕ} → check_refusal b s x 256 ≡ n → 1 ≤ n → better_refusal b s x y ≡ n
  refused_first {n} e h = as_checked ∙ rw e (by n h)
    where
      by : (n : ℕ) → 1 ≤ n → cond (eqb n 0) (check_refusal b s y 256) n ≡ n
      by zero h = absurd (omega arith)
      by (suc n) h = rw (eqb-suc-zero n)

  by_refusal : (n : ℕ) → 1 ≤ n → better_refusal b s x y ≡ n → no_choice n ≡ choice b s x y
  unfolding choice
  by_refusal zero h e = absurd (omega arith)
  by_refusal (suc n) h e = rw (e, eqb-suc-zero n)

  by_number : better_refusal b s x y ≡ 0 → choice b s x y ≡ bare_choice (better_number b s x y) (better b s x y)
  unfolding choice
  by_number e = rw e

  pub refusal_is : (choice b s x y).refusal ≡ better_refusal b s x y
  unfolding choice bare_choice no_choice
  refusal_is = by (better_refusal b s x y)
    where
      by : (n : ℕ) → (cond (eqb n 0) (bare_choice (better_number b s x y) (better b s x y)) (no_choice n)).refusal ≡ n
      by zero = refl
      by (suc n) = rw (eqb-suc-zero n)

-- ---- The answers compared

module _ (a c : Answer) where
  nearer_means : nearer a c ≡ true → a.distance * (c.weight * c.weight) < c.distance * (a.weight * a.weight)
  unfolding nearer
  nearer_means h = ltb-true _ _ h

  not_nearer : nearer a c ≡ false → c.distance * (a.weight * a.weight) ≤ a.distance * (c.weight * c.weight)
  unfolding nearer
  not_nearer h = ltb-false _ _ h

-- ---- The card of a number

module _ (b s x y : List ℕ) where
  number_by : (t : Bool) → nearer (card_answer b s y) (card_answer b s x) ≡ t → better_number b s x y ≡ cond t 2 1
  unfolding better_number
  number_by t q = ap (λ u. cond u 2 1) q

  better_by : {k : ℕ} → better_number b s x y ≡ k → better b s x y ≡ numbered k x y
  unfolding better
  better_by q = ap (λ k. numbered k x y) q

pub first_is : (x y : List ℕ) → numbered 1 x y ≡ x
unfolding numbered
first_is x y = refl

pub second_is : (x y : List ℕ) → numbered 2 x y ≡ y
unfolding numbered
second_is x y = refl

-- ---- Where the part starts

module _ (b s x y : List ℕ) (p q : ℕ × ℕ) where
  -- of the card of a number, by the refusal
  place_by : (n k : ℕ) →
      place_of (cond (eqb n 0) (bare_choice k (numbered k x y)) (no_choice n)) p q ≡ cond (eqb n 0) (cond (eqb k 2) (q.0, front_length y + q.1) (p.0, front_length x + p.1)) p
  unfolding place_of bare_choice no_choice numbered
  place_by zero k = by (eqb k 2)
    where
      by : (t : Bool) → ◌≡◌ {A = ℕ × ℕ} ((cond t q p).0, front_length (cond t y x) + (cond t q p).1) (cond t (q.0, front_length y + q.1) (p.0, front_length x + p.1))
      by true = refl
      by false = refl
  place_by (suc n) k = rw (eqb-suc-zero n, zero-add)

  pub place_is : {c : Choice} → c ≡ choice b s x y → place_of c p q ≡ better_place b s x y p q
  unfolding choice better_place better
  place_is e = rw e (place_by (better_refusal b s x y) (better_number b s x y))

-- ---- Two accepted cards

module _ (b s x y : List ℕ) (ok : files_refusal b s ≡ 0) (ax : all_bytes x ≡ true) (ay : all_bytes y ≡ true) (ex : card_refusal b s x ≡ 0) (ey : card_refusal b s y ≡ 0) where
  abbrev X : Answer
  X = card_answer b s x

  abbrev Y : Answer
  Y = card_answer b s y

  hx : IsDistance (squared_distance X) X
  hx = own_distance b s x ok ax ex

  hy : IsDistance (squared_distance Y) Y
  hy = own_distance b s y ok ay ey

  -- 2 exactly where the second is nearer
  second_exactly : (better_number b s x y ≡ 2) ↔ (squared_distance Y <ℚ squared_distance X)
  unfolding better_number
  second_exactly = by (nearer Y X) refl
    where
      by : (t : Bool) → nearer Y X ≡ t → (cond {A = ℕ} t 2 1 ≡ 2) ↔ (squared_distance Y <ℚ squared_distance X)
      by true q = (λ h. (less hy hx).1 (nearer_means Y X q), λ h. refl)
      by false q = (λ h. absurd (omega arith), λ h. absurd (omega (arith, (less hy hx).0 h, not_nearer Y X q)))

  -- the card w is chosen, as near as either
  module _ (w : List ℕ) (aw : all_bytes w ≡ true) (ew : card_refusal b s w ≡ 0) (is : better b s x y ≡ w)
      (first : squared_distance (card_answer b s w) ≤ℚ squared_distance X) (second : squared_distance (card_answer b s w) ≤ℚ squared_distance Y)
      (lesser : better_number b s x y ≡ 2 → squared_distance (card_answer b s w) <ℚ squared_distance X) where
    right_by : PartRight b s x y (bare w)
    right_by =
        record {
          front = front_of b s w ok aw ew;
          ends = ends b s w ok aw ew ∙ sym is;
          size = size b s w ok aw ew ∙ ap (λ v. (card_fields v).back + 36) (sym is);
          reads_back = rw is (reads_back b s w ok aw ew);
          distance = squared_distance (card_answer b s w);
          first_distance = squared_distance X;
          second_distance = squared_distance Y;
          distance_is = rw (reads_back b s w ok aw ew).answer (own_distance b s w ok aw ew);
          first_is = hx;
          second_is = hy;
          most_first = first;
          most_second = second;
          second_exactly = second_exactly;
          less = lesser;
        }

  chosen : PartRight b s x y (bare (better b s x y))
  chosen = by (nearer Y X) refl
    where
      by : (t : Bool) → nearer Y X ≡ t → PartRight b s x y (bare (better b s x y))
      by true q =
          let n = number_by b s x y true q in
          let is = better_by b s x y n ∙ second_is x y in
          let l = second_exactly.0 n in
          rw is (right_by y ay ey is ((at_most hy hx).1 (omega (arith, nearer_means Y X q))) ((at_most hy hy).1 (omega arith)) (λ h. l))
      by false q =
          let n = number_by b s x y false q in
          let is = better_by b s x y n ∙ first_is x y in
          rw is (right_by x ax ex is ((at_most hx hx).1 (omega arith)) ((at_most hx hy).1 (not_nearer Y X q)) (λ h. absurd (omega (arith, n))))

-- ---- The promise, of what the definitions give

module _ (b s x y : List ℕ) (ax : all_bytes x ≡ true) (ay : all_bytes y ≡ true) where
  part_when : better_refusal b s x y ≡ 0 → better_part b s x y ≡ bare (better b s x y)
  unfolding better_part
  part_when e = rw e

  no_part : (n : ℕ) → n ≡ better_refusal b s x y → 1 ≤ n → better_part b s x y ≡ []
  unfolding better_part
  no_part zero e h = absurd (omega arith)
  no_part (suc n) e h = rw (← e, eqb-suc-zero n)

  exactly : files_refusal b s ≡ 0 → (better_refusal b s x y ≡ 0) ↔ (CardTrue b s x × CardTrue b s y)
  unfolding AcceptedExactly
  exactly ok =
      let p = accepted_exactly plain_terms b s x ok ax in
      let q = accepted_exactly plain_terms b s y ok ay in (
        λ e. let a = accepted b s x y e in (p.0 a.1.0, q.0 a.1.1),
        λ t. refusal_after b s x y ok (p.1 t.0).0 ∙ (q.1 t.1).0,
      )

  same_number : (s' : List ℕ) → Editions s s' → better_refusal b s' x y ≡ better_refusal b s x y
  unfolding better_refusal
  same_number s' d = rw (same_files plain_terms b s s' d, same_card_refusal plain_terms b s s' d x, same_card_refusal plain_terms b s s' d y)

  same_part : (s' : List ℕ) → Editions s s' → better_part b s' x y ≡ better_part b s x y
  unfolding better_part better better_number
  same_part s' d = rw (same_number s' d, same_card_answer plain_terms b s s' d x, same_card_answer plain_terms b s s' d y)

  -- of files and cards that differ in front text alone
  module _ {b' s' x' y' : List ℕ} (d : FilesAlike b s b' s') (dx : CardsAlike b s x b' s' x') (dy : CardsAlike b s y b' s' y') where
    refusal_behind : better_refusal b' s' x' y' ≡ better_refusal b s x y
    unfolding better_refusal
    refusal_behind = rw (d.refusal, dx.refusal, dy.refusal)

    number_behind : better_number b' s' x' y' ≡ better_number b s x y
    unfolding better_number
    number_behind = rw (dx.answer, dy.answer)

    part_behind : bare x' ≡ bare x → bare y' ≡ bare y → better_part b' s' x' y' ≡ better_part b s x y
    unfolding better_part better numbered
    part_behind ex ey = rw (refusal_behind, number_behind) (by (eqb (better_number b s x y) 2))
      where
        by : (t : Bool) → cond (eqb (better_refusal b s x y) 0) (bare (cond t y' x')) [] ≡ cond (eqb (better_refusal b s x y) 0) (bare (cond t y x)) []
        by true = rw ey
        by false = rw ex

  fronts : (b' s' x' y' : List ℕ) → SameBook b b' → SameSheet s s' → SameCard x x' → SameCard y y' →
      (better_refusal b' s' x' y' ≡ better_refusal b s x y)
      × ((better_number b' s' x' y' ≡ better_number b s x y) × (better_part b' s' x' y' ≡ better_part b s x y))
  unfolding FilesFrontUnread CardFrontUnread
  fronts b' s' x' y' hb hs hx hy =
      let d = files_front_unread b s b' s' hb hs in
      let dx = card_front_unread plain_terms b s x b' s' x' hb hs hx in
      let dy = card_front_unread plain_terms b s y b' s' y' hb hs hy in
      (refusal_behind d dx dy, (number_behind d dx dy, part_behind d dx dy (bare_behind x x' hx) (bare_behind y y' hy)))

  pub better_right : {n : ℕ} {part : List ℕ} → n ≡ better_refusal b s x y → part ≡ better_part b s x y → BetterRight b s x y n part
  better_right {n} {part} e f =
      record {
        as_checked = e ∙ as_checked b s x y;
        exactly = λ ok. rw e (exactly ok);
        refused = λ h. f ∙ no_part n e h;
        chosen = λ z. let r = sym e ∙ z in let a = accepted b s x y r in rw (f, part_when r) (chosen b s x y a.0 ax ay a.1.0 a.1.1);
        editions = λ s' d. (same_number s' d, same_part s' d);
        fronts = fronts;
      }

  -- ---- The same of a choice

  module _ (z : better_refusal b s x y ≡ 0) where
    right : PartRight b s x y (bare (better b s x y))
    right = let a = accepted b s x y z in chosen b s x y a.0 ax ay a.1.0 a.1.1

    better_long : length right.front + ((card_fields (better b s x y)).back + 36) ≡ length (better b s x y)
    better_long = sym (length-append right.front (bare (better b s x y)) ∙ ap (λ n. length right.front + n) right.size) ∙ ap length right.ends

  -- the card and the part of a choice, by the refusal
  abbrev chosen_by : ℕ → Choice
  chosen_by n = cond (eqb n 0) (bare_choice (better_number b s x y) (better b s x y)) (no_choice n)

  part_when_none : better_refusal b s x y ≡ 0 → part_of (bare_choice (better_number b s x y) (better b s x y)) x y ≡ bare (better b s x y)
  unfolding part_of bare_choice better bare
  part_when_none z = take_all ((card_fields (better b s x y)).back + 36) (bare (better b s x y)) (omega (arith, (right z).size))

  part_by : (n : ℕ) → n ≡ better_refusal b s x y → part_of (chosen_by n) x y ≡ cond (eqb n 0) (bare (better b s x y)) []
  unfolding part_of no_choice
  part_by zero e = part_when_none (sym e)
  part_by (suc n) e = rw (eqb-suc-zero n)

  part_is : part_of (choice b s x y) x y ≡ better_part b s x y
  unfolding choice better_part
  part_is = part_by (better_refusal b s x y) refl

  fits_by : (n : ℕ) → n ≡ better_refusal b s x y → (chosen_by n).offset + (chosen_by n).len ≤ length (numbered (chosen_by n).card x y)
  unfolding bare_choice no_choice better
  fits_by zero e = omega (arith, better_long (sym e))
  fits_by (suc n) e = rw (eqb-suc-zero n) (omega arith)

  -- the part lies inside its card
  choice_fits : {c : Choice} → c ≡ choice b s x y → c.offset + c.len ≤ length (numbered c.card x y)
  unfolding choice
  choice_fits e = rw e (fits_by (better_refusal b s x y) refl)

  choice_right : {c : Choice} → c ≡ choice b s x y → BetterRight b s x y c.refusal (part_of c x y)
  choice_right e = rw e (better_right (refusal_is b s x y) part_is)

  -- all that is promised of a choice, and of the number and the part that it gives
  pub promised : {c : Choice} → c ≡ choice b s x y →
      (c ≡ choice b s x y) × (BetterRight b s x y c.refusal (part_of c x y) × (c.offset + c.len ≤ length (numbered c.card x y)))
  promised e = (e, (choice_right e, choice_fits e))

  pub handed : (p q : ℕ × ℕ) {c : Choice} {part : List ℕ} {place : ℕ × ℕ} → c ≡ choice b s x y → (part ≡ part_of c x y) × (place ≡ place_of c p q) →
      (c.refusal ≡ better_refusal b s x y) × ((part ≡ better_part b s x y) × ((place ≡ better_place b s x y p q) × BetterRight b s x y c.refusal part))
  handed p q e f =
      let n = ap (λ c. c.refusal) e ∙ refusal_is b s x y in
      let bytes = f.0 ∙ ap (λ c. part_of c x y) e ∙ part_is in
      (n, (bytes, (f.1 ∙ place_is b s x y p q e, better_right n bytes)))

-- ---- The ways of a choice, by what the two checks gave

module _ (b s x y : List ℕ) {r : Searched} (er : r ≡ outcome (check_refusal b s x 256) (card_answer b s x)) where
  -- the first card or the files are refused
  pub first_refused : (n : ℕ) → r ≡ Refused n → no_choice n ≡ choice b s x y
  first_refused n q = let p = outcome_refused (check_refusal b s x 256) n (card_answer b s x) (sym er ∙ q) in by_refusal b s x y n p.1 (refused_first b s x y p.0 p.1)

  module _ {a : Answer} (q : r ≡ Answered a) where
    x_accepted : (check_refusal b s x 256 ≡ 0) × (card_answer b s x ≡ a)
    x_accepted = outcome_answered (check_refusal b s x 256) (card_answer b s x) a (sym er ∙ q)

    -- so the second card is judged by files that were accepted
    pub files_accepted : files_refusal b s ≡ 0
    unfolding check_refusal_with
    files_accepted = sym (same_refusal b s) ∙ (both_zero (search_refusal b s 256) (card_refusal b s x) x_accepted.0).0

    by_second : better_refusal b s x y ≡ check_refusal b s y 256
    by_second = as_checked b s x y ∙ rw x_accepted.0

    module _ {t : Searched} (et : t ≡ outcome (check_refusal b s y 256) (card_answer b s y)) where
      pub second_refused : (n : ℕ) → t ≡ Refused n → no_choice n ≡ choice b s x y
      second_refused n u = let p = outcome_refused (check_refusal b s y 256) n (card_answer b s y) (sym et ∙ u) in by_refusal b s x y n p.1 (by_second ∙ p.0)

      module _ {c : Answer} (u : t ≡ Answered c) where
        y_accepted : (check_refusal b s y 256 ≡ 0) × (card_answer b s y ≡ c)
        y_accepted = outcome_answered (check_refusal b s y 256) (card_answer b s y) c (sym et ∙ u)

        none_refused : better_refusal b s x y ≡ 0
        none_refused = by_second ∙ y_accepted.0

        pub first_inside : all_bytes x ≡ true → (card_fields x).back + 36 ≤ length x
        first_inside ax = let p = accepted b s x y none_refused in inside b s x p.0 ax p.1.0

        pub second_inside : all_bytes y ≡ true → (card_fields y).back + 36 ≤ length y
        second_inside ay = let p = accepted b s x y none_refused in inside b s y p.0 ay p.1.1

        nearer_is : nearer c a ≡ nearer (card_answer b s y) (card_answer b s x)
        nearer_is = rw (x_accepted.1, y_accepted.1)

        pub second_chosen : {g : Bool} → g ≡ nearer c a → g ≡ true → bare_choice 2 y ≡ choice b s x y
        second_chosen e h =
            let n = number_by b s x y true (sym nearer_is ∙ sym e ∙ h) in
            rw (by_number b s x y none_refused, n, better_by b s x y n, second_is x y)

        pub first_chosen : {g : Bool} → g ≡ nearer c a → g ≡ false → bare_choice 1 x ≡ choice b s x y
        first_chosen e h =
            let n = number_by b s x y false (sym nearer_is ∙ sym e ∙ h) in
            rw (by_number b s x y none_refused, n, better_by b s x y n, first_is x y)
