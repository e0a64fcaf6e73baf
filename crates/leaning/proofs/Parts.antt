-- Laws of the shares in a list of slots, 256 a card: one card more behind others, and a card within them.
use mathlib.Core.Path.{◌≡◌, refl, sym, ap, ◌∙◌}
use mathlib.Core.List.{List, [], ◌∷◌, ◌++◌, append_assoc}
use Prim.Native.Nat.{ℕ, zero, suc, ◌+◌, ◌*◌, ◌-◌, ◌≤◌}
use native.Mathlib.Omega.{arith}
use lib.ListN.{length, take, drop}
use lib.Seq.{take-take, drop-drop, take_at, drop_at, length-take-le}
use Rattle.leaning.specs.Slots.{parts, card_slots}

pub parts_length : (k n : ℕ) (slots : List ℕ) → length (parts k n slots) ≡ k
unfolding parts
parts_length zero n slots = refl
parts_length (suc k) n slots = ap suc (parts_length k n (drop card_slots slots))

-- behind so many cards
drop_card : (k : ℕ) (slots : List ℕ) → drop (card_slots * k) (drop card_slots slots) ≡ drop (card_slots * suc k) slots
drop_card k slots = let e : card_slots + card_slots * k ≡ card_slots * suc k = omega arith in drop-drop (card_slots * k) card_slots slots ∙ rw e

-- one card more
pub parts_more : (k n : ℕ) (slots : List ℕ) → parts (suc k) n slots ≡ parts k n slots ++ (take n (drop (card_slots * k) slots) ∷ [])
unfolding parts
parts_more zero n slots = refl
parts_more (suc k) n slots =
    ap (λ (l : List (List ℕ)). take n slots ∷ l) (parts_more k n (drop card_slots slots) ∙ rw (drop_card k slots))

-- the cards behind some
pub parts_drop : (i k n : ℕ) (slots : List ℕ) → drop i (parts (i + k) n slots) ≡ parts k n (drop (card_slots * i) slots)
unfolding parts
parts_drop zero k n slots = let e : 0 + k ≡ k = omega arith in rw e
parts_drop (suc i) k n slots =
    let e : suc i + k ≡ suc (i + k) = omega arith in
    rw e (parts_drop i k n (drop card_slots slots) ∙ ap (parts k n) (drop_card i slots))

-- the first of some
pub parts_take : (m k n : ℕ) (slots : List ℕ) → take m (parts (m + k) n slots) ≡ parts m n slots
unfolding parts
parts_take zero k n slots = refl
parts_take (suc m) k n slots =
    let e : suc m + k ≡ suc (m + k) = omega arith in
    rw e (ap (λ (l : List (List ℕ)). take n slots ∷ l) (parts_take m k n (drop card_slots slots)))

-- m cards behind i others
pub parts_within : (i m k n : ℕ) (slots : List ℕ) → i + m ≤ k → take m (drop i (parts k n slots)) ≡ parts m n (drop (card_slots * i) slots)
parts_within i m k n slots h =
    let e : k ≡ i + (m + (k - i - m)) = omega arith in
    rw e (ap (take m) (parts_drop i (m + (k - i - m)) n slots) ∙ parts_take m (k - i - m) n (drop (card_slots * i) slots))

-- the slots of so many cards alone count
pub parts_same : (k n : ℕ) (a b : List ℕ) → n ≤ card_slots → take (card_slots * k) a ≡ take (card_slots * k) b → parts k n a ≡ parts k n b
unfolding parts
parts_same zero n a b h e = refl
parts_same (suc k) n a b h e =
    let f : take n a ≡ take n b =
    sym (take-take n (card_slots * suc k) a (omega arith)) ∙ ap (take n) e ∙ take-take n (card_slots * suc k) b (omega arith) in
    let g : take (card_slots * k) (drop card_slots a) ≡ take (card_slots * k) (drop card_slots b) =
    take_behind (card_slots * k) a ∙ ap (drop card_slots) (rw same at e) ∙ sym (take_behind (card_slots * k) b) in
    rw (f, parts_same k n (drop card_slots a) (drop card_slots b) h g)
  where
    same : card_slots * suc k ≡ card_slots + card_slots * k
    same = omega arith

    take_drop : (i m : ℕ) (l : List ℕ) → take m (drop i l) ≡ drop i (take (i + m) l)
    take_drop zero m l = let e : 0 + m ≡ m = omega arith in rw e
    take_drop (suc i) m [] = let e : suc i + m ≡ suc (i + m) = omega arith in rw e (none m)
      where
        none : (m : ℕ) → ◌≡◌ {A = List ℕ} (take m []) []
        none zero = refl
        none (suc m) = refl
    take_drop (suc i) m (x ∷ l) = let e : suc i + m ≡ suc (i + m) = omega arith in rw e (take_drop i m l)

    take_behind : (m : ℕ) (l : List ℕ) → take m (drop card_slots l) ≡ drop card_slots (take (card_slots + m) l)
    take_behind m l = take_drop card_slots m l

-- the shares of a card put behind those of k others
module _ (k n : ℕ) (qs slots rest : List ℕ) (inside : card_slots * k ≤ length slots) (size : length qs ≡ n) (few : n ≤ card_slots) where
  pub parts_put : parts (suc k) n ((take (card_slots * k) slots ++ qs) ++ rest) ≡ parts k n slots ++ (qs ∷ [])
  parts_put =
      let i = card_slots * k in
      let l : length (take i slots) ≡ i = length-take-le i slots inside in
      let e : (take i slots ++ qs) ++ rest ≡ take i slots ++ (qs ++ rest) = append_assoc (take i slots) qs rest in
      let f : take i (take i slots ++ (qs ++ rest)) ≡ take i slots = take_at (take i slots) (qs ++ rest) i l in
      let g : drop i (take i slots ++ (qs ++ rest)) ≡ qs ++ rest = drop_at (take i slots) (qs ++ rest) i l in
      rw (e, parts_more k n (take i slots ++ (qs ++ rest)), g, take_at qs rest n size, parts_same k n (take i slots ++ (qs ++ rest)) slots few f)
