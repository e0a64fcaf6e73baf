-- The memory of products: a slot written, the others as they were. Assumes nothing.
use mathlib.Core.Path.{◌≡◌, refl, sym, ap, ◌∙◌}
use mathlib.Core.Bool.{Bool, true, false}
use mathlib.Core.List.{List, ◌++◌, append_assoc, append-nil}
use Prim.Native.Nat.{ℕ, zero, suc, ◌+◌, ◌*◌, ◌-◌, ◌≤◌, ◌<◌}
use native.Mathlib.Nat.{suc-mul, mul-le-mul_right}
use native.Mathlib.Omega.{arith}
use borrow.Author.Tests.{ltb-true, ltb-false, lt-ltb, le-ltb, ne_eqb}
use lib.Dec.{ltb}
use lib.IntN.{ℤ, pos}
use lib.ListN.{length, get_or, set, take, drop, replicate, length-drop, length-set, take-append-drop}
use borrow.Rule.Slice.PartMut.{put_mid}
use lib.Seq.{paste, drop-length, drop-append-le, take-append-le, take_at, drop_at, drop-drop, take_all, length-paste, length-take-le, get_or-set_same, get_or-set_other, get_or-take, get_or-drop}
use mir.Syntax.{w64}
use mir.Val.{Fits}
use Rattle.files.specs.Book.{boats}
use Rattle.files.specs.Sheet.{files_refusal}
use Rattle.iteration.specs.declared.Layout.{Layout}
use Rattle.iteration.specs.States.{file_layout, boat_products, target_product}
use Rattle.iteration.proofs.States.{book_fits, product_count}
use Rattle.run_loop.specs.Runs.{Products, Memory, memory_of, taken, slot_of, tagged, remembering, Remembered}

-- ---- A part of a list in which another part was replaced

part_of_front : (d x : List ℤ) (p n : ℕ) → p + n ≤ length d → take n (drop p (d ++ x)) ≡ take n (drop p d)
part_of_front d x p n h = rw (drop-append-le p d x (omega arith)) (take-append-le n (drop p d) x (rw length-drop (omega arith)))

module _ (d row : List ℤ) (at n p : ℕ) (hd : at + n ≤ length d) (hr : n ≤ length row) where
  front_long : length (take at d) ≡ at
  front_long = length-take-le at d (omega arith)

  paste_front : paste d at row n ≡ take at d ++ (take n row ++ drop (at + n) d)
  paste_front = append_assoc (take at d) (take n row) (drop (at + n) d)

  pub part_before : p + n ≤ at → take n (drop p (paste d at row n)) ≡ take n (drop p d)
  part_before h =
      let k : p + n ≤ length (take at d) = rw front_long h in
      ap (λ z. take n (drop p z)) paste_front ∙ part_of_front (take at d) _ p n k
      ∙ sym (part_of_front (take at d) (drop at d) p n k) ∙ rw (take-append-drop at d)

  pub part_there : take n (drop at (paste d at row n)) ≡ take n row
  part_there =
      ap (λ z. take n (drop at z)) paste_front ∙ ap (take n) (drop_at (take at d) (take n row ++ drop (at + n) d) at front_long)
      ∙ take_at (take n row) (drop (at + n) d) n (length-take-le n row hr)

-- ---- Slots

either : (j k : ℕ) {A : Type 0} → (j ≡ k → A) → ((j ≡ k → ⊥) → A) → A
either j k {A} same differs = by (ltb j k) (ltb k j) refl refl
  where
    by : (t r : Bool) → ltb j k ≡ t → ltb k j ≡ r → A
    by true r a c = differs (λ f. omega (arith, ltb-true j k a))
    by false true a c = differs (λ f. omega (arith, ltb-true k j c))
    by false false a c = same (omega (arith, ltb-false j k a, ltb-false k j c))

-- two slots of n numbers do not overlap
apart : (j k n : ℕ) → j < k → j * n + n ≤ k * n
apart j k n h = omega (arith, mul-le-mul_right n h, suc-mul j n)

-- the tags once boat i has slot k
module _ (tags : List ℕ) (long : length tags ≡ 257) (i : ℕ) (hi : i < 256) (k : ℕ) where
  abbrev more : List ℕ
  more = set (set tags i (k + 1)) 256 (k + 1)

  more_count : get_or more 256 0 ≡ k + 1
  more_count = get_or-set_same (set tags i (k + 1)) 256 (k + 1) 0 (rw length-set (omega arith))

  more_at : (q : ℕ) → q < 256 → get_or more q 0 ≡ get_or (set tags i (k + 1)) q 0
  more_at q h = get_or-set_other (set tags i (k + 1)) 256 q (k + 1) 0 (λ f. omega arith)

  -- what holds of boat i with slot k, and of every other boat with its slot
  more_each : (P : ℕ → ℕ → Type 0) → P i k → ((q j : ℕ) → get_or tags q 0 ≡ suc j → P q j) → (q j : ℕ) → q < 256 → get_or more q 0 ≡ suc j → P q j
  more_each P own others q j hq e = either q i same differs
    where
      same : q ≡ i → P q j
      same f =
          let g : k + 1 ≡ suc j = sym (get_or-set_same tags i (k + 1) 0 (omega arith)) ∙ (rw f at (sym (more_at q hq) ∙ e)) in
          let n : k ≡ j = omega arith in
          rw (f, ← n) own

      differs : (q ≡ i → ⊥) → P q j
      differs ne = others q j (sym (get_or-set_other tags i q (k + 1) 0 ne) ∙ sym (more_at q hq) ∙ e)

  -- the last slot is nobody's
  by_slot : (P : List ℕ → Type 0) → (k < 63 → P (set (set tags i (k + 1)) 256 (k + 1))) → (63 ≤ k → P tags) → P (tagged i k tags)
  unfolding tagged
  by_slot P f g = by (ltb k 63) refl
    where
      by : (t : Bool) → ltb k 63 ≡ t → P (tagged i k tags)
      by true e = rw e (f (ltb-true k 63 e))
      by false e = rw e (g (ltb-false k 63 e))

module _ (b s : List ℕ) (ok : files_refusal b s ≡ 0) {m : Memory} (R : Remembered b s m) {i : ℕ} (h : i < boats b) where
  in_tags : i < 256
  in_tags = omega (arith, (book_fits b s ok).most_boats)

  pub boat_tag : i < length m.tags
  boat_tag = omega (arith, R.tags_long, in_tags)

  -- ---- A boat that has a slot

  module _ (some : get_or m.tags i 0 ≡ 0 → ⊥) where
    pub kept_slot : get_or m.tags i 0 - 1 ≡ slot_of i m
    unfolding slot_of
    kept_slot = rw (ne_eqb (get_or m.tags i 0) 0 some)

    pub kept_is : remembering b s i m ≡ m
    unfolding remembering
    kept_is = rw (ne_eqb (get_or m.tags i 0) 0 some)

    has : get_or m.tags i 0 ≡ suc (slot_of i m)
    has = rw (← kept_slot) (omega (arith, some))

    pub kept_below : slot_of i m < 64
    kept_below = omega (arith, R.below i (slot_of i m) h has, R.few)

  -- ---- A boat that takes the next slot

  module _ (none : get_or m.tags i 0 ≡ 0) where
    abbrev k : ℕ
    k = taken m

    abbrev row : List ℤ
    row = boat_products b s i

    abbrev pasted : List ℤ
    pasted = paste m.products (taken m * boats b) (boat_products b s i) (boats b)

    abbrev aimed : List ℤ
    aimed = set m.targets (taken m) (target_product b s i)

    pub next_slot : slot_of i m ≡ taken m
    unfolding slot_of
    next_slot = rw none

    next_is : remembering b s i m ≡ memory_of (tagged i k m.tags) aimed pasted
    unfolding remembering
    next_is = rw none

    slot_room : k * boats b + boats b ≤ length m.products
    slot_room = omega (arith, apart k 64 (boats b) (omega (arith, R.few)), R.room)

    row_long : boats b ≤ length row
    row_long = omega (arith, product_count b s ok i)

    pasted_long : length pasted ≡ length m.products
    pasted_long = length-paste m.products (k * boats b) row (boats b) slot_room row_long

    here : Products b s i (drop (k * boats b) pasted)
    here =
        record {
          room = rw length-drop (omega (arith, pasted_long, slot_room));
          are = part_there m.products row (k * boats b) (boats b) 0 slot_room row_long ∙ take_all (boats b) row (omega (arith, product_count b s ok i));
        }

    target_here : get_or aimed k (pos 0) ≡ target_product b s i
    target_here = get_or-set_same m.targets k (target_product b s i) (pos 0) (omega (arith, R.targets_long, R.few))

    -- the slots before it
    there : (q j : ℕ) → j < k → Products b s q (drop (j * boats b) m.products) → Products b s q (drop (j * boats b) pasted)
    there q j hj Q =
        record {
          room = rw length-drop (omega (arith, pasted_long, apart j k (boats b) hj, slot_room));
          are = part_before m.products row (k * boats b) (boats b) (j * boats b) slot_room row_long (apart j k (boats b) hj) ∙ Q.are;
        }

    target_there : (j : ℕ) → j < k → get_or aimed j (pos 0) ≡ get_or m.targets j (pos 0)
    target_there j hj = get_or-set_other m.targets k j (target_product b s i) (pos 0) (λ f. omega arith)

    next_remembered : Remembered b s (memory_of (tagged i k m.tags) aimed pasted)
    next_remembered = by_slot m.tags R.tags_long i in_tags k (λ ts. Remembered b s (memory_of ts aimed pasted)) took full
      where
        room : 64 * boats b ≤ length pasted
        room = omega (arith, pasted_long, R.room)

        targets_long : length aimed ≡ 64
        targets_long = length-set m.targets k (target_product b s i) ∙ R.targets_long

        full : 63 ≤ k → Remembered b s (memory_of m.tags aimed pasted)
        full g =
            record {
              tags_long = R.tags_long;
              targets_long = targets_long;
              room = room;
              few = R.few;
              below = R.below;
              targets = λ q j hq e. target_there j (R.below q j hq e) ∙ R.targets q j hq e;
              products = λ q j hq e. there q j (R.below q j hq e) (R.products q j hq e);
            }

        -- the boats that have a slot are those that had one, and boat i
        each : (P : ℕ → ℕ → Type 0) → P i k → ((q j : ℕ) → q < boats b → get_or m.tags q 0 ≡ suc j → P q j) →
            (q j : ℕ) → q < boats b → get_or (set (set m.tags i (k + 1)) 256 (k + 1)) q 0 ≡ suc j → P q j
        each P own others q j hq e = more_each m.tags R.tags_long i in_tags k (λ a c. a < boats b → P a c) (λ g. own) (λ a c f g. others a c g f) q j (omega (arith, (book_fits b s ok).most_boats)) e hq

        took : k < 63 → Remembered b s (memory_of (set (set m.tags i (k + 1)) 256 (k + 1)) aimed pasted)
        took g =
            let n = more_count m.tags R.tags_long i in_tags k in
            record {
              tags_long = rw (length-set, length-set) R.tags_long;
              targets_long = targets_long;
              room = room;
              few = rw n (omega arith);
              below = each (λ q j. j < get_or (set (set m.tags i (k + 1)) 256 (k + 1)) 256 0) (rw n (omega arith)) (λ q j hq e. rw n (omega (arith, R.below q j hq e)));
              targets = each (λ q j. get_or aimed j (pos 0) ≡ target_product b s q) target_here (λ q j hq e. target_there j (R.below q j hq e) ∙ R.targets q j hq e);
              products = each (λ q j. Products b s q (drop (j * boats b) pasted)) here (λ q j hq e. there q j (R.below q j hq e) (R.products q j hq e));
            }

    pub next_fits : {l : Layout} → l ≡ file_layout b s → Fits w64 (k * l.boats)
    unfolding file_layout
    next_fits e = rw e (record { fits = omega (arith, apart k 64 (boats b) (omega (arith, R.few)), (book_fits b s ok).most_boats) })

    pub next_bytes_fit : {l : Layout} → l ≡ file_layout b s → Fits w64 (k * l.boats * 4)
    unfolding file_layout
    next_bytes_fit e = rw e (record { fits = omega (arith, apart k 64 (boats b) (omega (arith, R.few)), (book_fits b s ok).most_boats) })

    pub next_starts : {l : Layout} → l ≡ file_layout b s → k * l.boats ≤ length m.products
    unfolding file_layout
    next_starts e = rw e (omega (arith, slot_room))

    -- the memory from the slot on, as it is lent and comes back
    whole_part : take (length m.products - k * boats b) (drop (k * boats b) m.products) ≡ drop (k * boats b) m.products
    whole_part = take_all (length m.products - k * boats b) (drop (k * boats b) m.products) (rw length-drop (omega arith))

    pub next_part : {l : Layout} → l ≡ file_layout b s → boats b ≤ length (take (length m.products - k * l.boats) (drop (k * l.boats) m.products))
    unfolding file_layout
    next_part e = rw (e, whole_part) (rw length-drop (omega (arith, slot_room)))

    put_back : {part : List ℤ} → part ≡ boat_products b s i ++ drop (boats b) (take (length m.products - k * boats b) (drop (k * boats b) m.products)) →
        put_mid (k * boats b) (length m.products - k * boats b) m.products part ≡ pasted
    put_back ep =
        let at = k * boats b in
        let n : length m.products - at ≡ length (drop at m.products) = sym (length-drop at m.products) in
        rw (ep, whole_part, n, drop-length (drop at m.products), append-nil, drop-drop (boats b) at m.products)
        (ap (λ (x : List ℤ). take at m.products ++ (x ++ drop (at + boats b) m.products)) (sym (take_all (boats b) row (omega (arith, product_count b s ok i))))
        ∙ sym (append_assoc (take at m.products) (take (boats b) row) (drop (at + boats b) m.products)))

    -- what the code leaves is the definition's memory
    module _ {l : Layout} (e : l ≡ file_layout b s) {part : List ℤ} (ep : part ≡ boat_products b s i ++ drop (boats b) (take (length m.products - k * l.boats) (drop (k * l.boats) m.products)))
        {z : ℤ} (ez : z ≡ target_product b s i) where
      pub took_is : k < 63 → memory_of (set (set m.tags i (k + 1)) 256 (k + 1)) (set m.targets k z) (put_mid (k * l.boats) (length m.products - k * l.boats) m.products part) ≡ remembering b s i m
      unfolding file_layout tagged
      took_is g = rw (next_is, ez, lt-ltb k 63 g, e) (rw (put_back (rw e at ep)))

      pub full_is : 63 ≤ k → memory_of m.tags (set m.targets k z) (put_mid (k * l.boats) (length m.products - k * l.boats) m.products part) ≡ remembering b s i m
      unfolding file_layout tagged
      full_is g = rw (next_is, ez, le-ltb k 63 g, e) (rw (put_back (rw e at ep)))

  -- ---- Whether it has a slot or takes one

  pub slot_below : slot_of i m < 64
  slot_below = either (get_or m.tags i 0) 0 (λ none. rw (next_slot none) (omega (arith, R.few))) (λ some. kept_below some)

  pub remembered : Remembered b s (remembering b s i m)
  remembered = either (get_or m.tags i 0) 0 (λ none. rw (next_is none) (next_remembered none)) (λ some. rw (kept_is some) R)

  pub remembered_long : length (remembering b s i m).products ≡ length m.products
  remembered_long = either (get_or m.tags i 0) 0 (λ none. rw (next_is none) (pasted_long none)) (λ some. rw (kept_is some))

  slot_products : Products b s i (drop (slot_of i m * boats b) (remembering b s i m).products)
  slot_products = either (get_or m.tags i 0) 0 (λ none. rw (next_is none, next_slot none) (here none)) (λ some. rw (kept_is some) (R.products i (slot_of i m) h (has some)))

  slot_target : get_or (remembering b s i m).targets (slot_of i m) (pos 0) ≡ target_product b s i
  slot_target = either (get_or m.tags i 0) 0 (λ none. rw (next_is none, next_slot none) (target_here none)) (λ some. rw (kept_is some) (R.targets i (slot_of i m) h (has some)))

  -- as the code has it: the slot k, and the memory that `remember` leaves
  module _ {k : ℕ} (ek : k ≡ slot_of i m) {m' : Memory} (em : m' ≡ remembering b s i m) where
    room_there : k * boats b + boats b ≤ length m'.products
    room_there = rw (em, ek) (omega (arith, apart (slot_of i m) 64 (boats b) slot_below, remembered.room))

    pub slot_small : k < 64
    slot_small = rw ek slot_below

    pub target_below : k < length m'.targets
    target_below = rw (em, ek) (omega (arith, remembered.targets_long, slot_below))

    pub target_is : get_or m'.targets k (pos 0) ≡ target_product b s i
    target_is = rw (em, ek) slot_target

    module _ {l : Layout} (e : l ≡ file_layout b s) where
      pub slot_fits : Fits w64 (k * l.boats)
      unfolding file_layout
      slot_fits = rw (e, ek) (record { fits = omega (arith, apart (slot_of i m) 64 (boats b) slot_below, (book_fits b s ok).most_boats) })

      pub slot_bytes_fit : Fits w64 (k * l.boats * 4)
      unfolding file_layout
      slot_bytes_fit = rw (e, ek) (record { fits = omega (arith, apart (slot_of i m) 64 (boats b) slot_below, (book_fits b s ok).most_boats) })

      pub slot_starts : k * l.boats ≤ length m'.products
      unfolding file_layout
      slot_starts = rw e (omega (arith, room_there))

      -- the boat's own product in its slot
      pub own_fits : Fits w64 (k * l.boats + i)
      unfolding file_layout
      own_fits = rw (e, ek) (record { fits = omega (arith, apart (slot_of i m) 64 (boats b) slot_below, (book_fits b s ok).most_boats) })

      pub own_bytes_fit : Fits w64 ((k * l.boats + i) * 4)
      unfolding file_layout
      own_bytes_fit = rw (e, ek) (record { fits = omega (arith, apart (slot_of i m) 64 (boats b) slot_below, (book_fits b s ok).most_boats) })

      pub own_inside : k * l.boats + i < length m'.products
      unfolding file_layout
      own_inside = rw e (omega (arith, room_there))

      pub own_is : get_or m'.products (k * l.boats + i) (pos 0) ≡ get_or (boat_products b s i) i (pos 0)
      unfolding file_layout
      own_is =
          let P : Products b s i (drop (k * boats b) m'.products) = rw (em, ek) slot_products in
          rw e (sym (get_or-drop (k * boats b) m'.products i (pos 0)) ∙ sym (get_or-take (boats b) (drop (k * boats b) m'.products) i (pos 0) h) ∙ ap (λ (z : List ℤ). get_or z i (pos 0)) P.are)

      -- the memory from the slot on, as it is lent
      pub slot_part : Products b s i (take (length m'.products - k * l.boats) (drop (k * l.boats) m'.products))
      unfolding file_layout
      slot_part =
          let P : Products b s i (drop (k * boats b) m'.products) = rw (em, ek) slot_products in
          rw (e, take_all (length m'.products - k * boats b) (drop (k * boats b) m'.products) (rw length-drop (omega arith))) P

-- nothing is remembered at first
zeros : (n j : ℕ) → ◌≡◌ {A = ℕ} (get_or (replicate n 0) j 0) 0
zeros zero j = refl
zeros (suc n) zero = refl
zeros (suc n) (suc j) = zeros n j

pub remembers_nothing : (b s : List ℕ) {products : List ℤ} → 64 * boats b ≤ length products → Remembered b s (memory_of (replicate 257 0) (replicate 64 (pos 0)) products)
remembers_nothing b s h =
    record {
      tags_long = refl;
      targets_long = refl;
      room = h;
      few = omega arith;
      below = λ i j hi e. absurd (omega (arith, zeros 257 i, e));
      targets = λ i j hi e. absurd (omega (arith, zeros 257 i, e));
      products = λ i j hi e. absurd (omega (arith, zeros 257 i, e));
    }

-- memory for boats that are at most n has room for 64 of their rows
pub room_for : (b s : List ℕ) (n : ℕ) {l : Layout} → l ≡ file_layout b s → l.boats ≤ n → 64 * boats b ≤ 64 * n
unfolding file_layout
room_for b s n {l} e h = let g : boats b ≤ n = rw e at h in omega arith

pub room_always : (b s : List ℕ) → files_refusal b s ≡ 0 → 64 * boats b ≤ 16384
room_always b s ok = omega (arith, (book_fits b s ok).most_boats)
