-- The list of the boats that hold shares: made in one pass, and read from its front. Assumes nothing.
use mathlib.Core.Path.{◌≡◌, refl, ◌∙◌}
use mathlib.Core.Bool.{Bool, true, false}
use mathlib.Core.List.{List, [], ◌∷◌, ◌++◌}
use Prim.Native.Nat.{ℕ, zero, suc, ◌+◌, ◌≤◌, ◌<◌}
use native.Mathlib.Omega.{arith}
use native.Mathlib.Numerals.{add-one}
use borrow.Author.Tests.{ltb-true, ltb-false}
use lib.Dec.{ltb}
use lib.ListN.{length, get_or, set, take, drop, length-set}
use lib.Seq.{drop-nil, drop-cons, take-suc-set, append_snoc, set_split}
use Rattle.pairwise_moves.specs.Passes.{Idle, Lists, Listed}

-- ---- The list is made

-- boats before i are in the first `count` slots
pub record Listing (qs : List ℕ) (n : ℕ) (old : List ℕ) (count i : ℕ) (list : List ℕ) : Type 0 where
  pub within : i ≤ n
  pub few : count ≤ i
  pub slots : length list ≡ length old
  pub room : n < length old
  pub ends : (l : List ℕ) → Lists qs n i l → Lists qs n 0 (take count list ++ l)

pub listing_start : (qs : List ℕ) (n : ℕ) (old : List ℕ) → n < length old → Listing qs n old 0 0 old
listing_start qs n old h = record { within = omega arith; few = omega arith; slots = refl; room = h; ends = λ l f. f }

-- a boat that holds none need not be there
passed_over : (qs : List ℕ) (n i : ℕ) → get_or qs i 0 ≡ 0 → (l : List ℕ) → Lists qs n (suc i) l → Lists qs n i l
unfolding Lists
passed_over qs n i e [] h = h
passed_over qs n i e (x ∷ l) h = (omega (arith, h.0), (h.1.0, ((λ y a b. by y a b (ltb i y) refl), h.1.1.1)))
  where
    by : (y : ℕ) → i ≤ y → y < x → (t : Bool) → ltb i y ≡ t → get_or qs y 0 ≡ 0
    by y a b true f = h.1.1.0 y (ltb-true i y f) b
    by y a b false f = let g : y ≡ i = omega (arith, ltb-false i y f) in rw g e

module _ {qs : List ℕ} {n : ℕ} {old : List ℕ} {count i : ℕ} {list : List ℕ} (g : Listing qs n old count i list) where
  pub listing_place : count < length list
  listing_place = omega (arith, g.few, g.within, g.slots, g.room)

  pub listing_idle : i < n → get_or qs i 0 ≡ 0 → Listing qs n old count (i + 1) list
  listing_idle h e =
      let k = add-one i in
      record { within = omega arith; few = omega (arith, g.few); slots = g.slots; room = g.room; ends = rw k (λ l f. g.ends l (passed_over qs n i e l f)) }

  front : (x : ℕ) (l : List ℕ) → take (suc count) (set list count x) ++ l ≡ take count list ++ x ∷ l
  front x l = rw (take-suc-set list count x listing_place) (append_snoc (take count list) x l)

  pub listing_held : i < n → Listing qs n old (count + 1) (i + 1) (set list count i)
  unfolding Lists
  listing_held h =
      let k = add-one i in
      let m = add-one count in
      record {
        within = omega arith;
        few = omega (arith, g.few);
        slots = length-set list count i ∙ g.slots;
        room = g.room;
        ends = rw (k, m) (λ l f. rw (front i l) (g.ends (i ∷ l) (omega arith, (omega arith, ((λ y a b. absurd (omega arith)), λ a. f)))));
      }

  pub listing_end : n ≤ i → Listed qs n (set list count n)
  unfolding Lists
  listing_end h =
      record { all = rw (set_split list count n listing_place) (g.ends (n ∷ drop (suc count) list) (omega (arith, g.within), (omega arith, ((λ y a b. absurd (omega (arith, g.within))), λ a. absurd (omega arith))))) }

-- ---- The list is read

drop_past : (l : List ℕ) (j : ℕ) → length l ≤ j → drop j l ≡ []
drop_past [] j h = drop-nil j
drop_past (a ∷ l) zero h = absurd (omega arith)
drop_past (a ∷ l) (suc j) h = drop_past l j (omega arith)

-- the boat in slot j, and what stands behind it
pub record Opened (qs : List ℕ) (n k : ℕ) (list : List ℕ) (j : ℕ) : Type 0 where
  pub inside : j < length list
  pub later : k ≤ get_or list j 0
  pub most : get_or list j 0 ≤ n
  pub idle : Idle qs k (get_or list j 0)
  pub rest : get_or list j 0 < n → Lists qs n (suc (get_or list j 0)) (drop (suc j) list)

pub opened : (qs : List ℕ) (n k : ℕ) (list : List ℕ) (j : ℕ) → Lists qs n k (drop j list) → Opened qs n k list j
unfolding Lists
opened qs n k list j h = by (ltb j (length list)) refl
  where
    by : (t : Bool) → ltb j (length list) ≡ t → Opened qs n k list j
    by true e =
        let i : j < length list = ltb-true j (length list) e in
        let g : Lists qs n k (get_or list j 0 ∷ drop (suc j) list) = rw (drop-cons list j 0 i) at h in
        record { inside = i; later = g.0; most = g.1.0; idle = g.1.1.0; rest = g.1.1.1 }
    by false e = let g : Lists qs n k [] = rw (drop_past list j (ltb-false j (length list) e)) at h in absurd g

-- where fewer hold shares the list still has them all
pub fewer_hold : (qs os : List ℕ) → ((x : ℕ) → get_or qs x 0 ≡ 0 → get_or os x 0 ≡ 0) → (n k : ℕ) (l : List ℕ) → Lists qs n k l → Lists os n k l
unfolding Lists
fewer_hold qs os f n k [] h = h
fewer_hold qs os f n k (i ∷ l) h = (h.0, (h.1.0, ((λ x a b. f x (h.1.1.0 x a b)), λ a. fewer_hold qs os f n (suc i) l (h.1.1.1 a))))
