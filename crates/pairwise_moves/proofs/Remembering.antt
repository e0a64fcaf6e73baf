-- The memory of products: the row of each boat that holds shares is written once, and stays. Assumes nothing.
use mathlib.Core.Path.{◌≡◌, refl, sym, ap, ◌∙◌}
use mathlib.Core.Bool.{Bool, true, false}
use mathlib.Core.List.{List, ◌++◌, append_assoc, append-nil}
use Prim.Native.Nat.{ℕ, ◌+◌, ◌*◌, ◌-◌, ◌≤◌, ◌<◌}
use native.Mathlib.Nat.{suc-mul, mul-le-mul_right}
use native.Mathlib.Omega.{arith}
use borrow.Author.Tests.{ltb-true, ltb-false}
use borrow.Rule.Slice.PartMut.{put_mid}
use lib.Dec.{ltb}
use lib.IntN.{ℤ, pos}
use lib.ListN.{length, get_or, take, drop, length-drop}
use lib.Seq.{paste, drop-length, drop-drop, take_all, length-paste, get_or-take, get_or-drop}
use mir.Syntax.{w64}
use mir.Val.{Fits}
use Rattle.files.specs.Book.{boats}
use Rattle.files.specs.Sheet.{files_refusal}
use Rattle.iteration.specs.declared.Layout.{Layout}
use Rattle.iteration.specs.States.{file_layout, boat_products}
use Rattle.iteration.proofs.States.{book_fits, product_count}
use Rattle.run_loop.specs.Runs.{Products}
use Rattle.run_loop.proofs.Memory.{part_before, part_there}
use Rattle.pairwise_moves.specs.Passes.{HeldProducts}

-- two rows of n numbers do not overlap
rows_apart : (j k n : ℕ) → j < k → j * n + n ≤ k * n
rows_apart j k n h = omega (arith, mul-le-mul_right n h, suc-mul j n)

-- the boats of a layout are the book's
module _ (b s : List ℕ) {l : Layout} (e : l ≡ file_layout b s) {i : ℕ} where
  pub inside_boats : i < l.boats → i < boats b
  unfolding file_layout
  inside_boats h = rw e at h

  pub all_boats : l.boats ≤ i → boats b ≤ i
  unfolding file_layout
  all_boats h = rw e at h

  pub inside_shares : (qs : List ℕ) → boats b ≤ length qs → i < l.boats → i < length qs
  inside_shares qs r h = omega (arith, inside_boats h)

-- the boats before i that hold shares have their products in the memory
pub record Remembering (b s : List ℕ) (qs : List ℕ) (old : List ℤ) (memory : List ℤ) (i : ℕ) : Type 0 where
  pub within : i ≤ boats b
  pub slots : length memory ≡ length old
  pub each : (q : ℕ) → q < i → 1 ≤ get_or qs q 0 → Products b s q (drop (q * boats b) memory)

module _ (b s : List ℕ) (ok : files_refusal b s ≡ 0) {qs : List ℕ} {old : List ℤ} (space : boats b * boats b ≤ length old) where
  pub remembering_start : Remembering b s qs old old 0
  remembering_start = record { within = omega arith; slots = refl; each = λ q h. absurd (omega arith) }

  module _ {memory : List ℤ} {i : ℕ} (r : Remembering b s qs old memory i) where
    pub remembering_end : boats b ≤ i → HeldProducts b s qs memory
    remembering_end h = record { room = omega (arith, r.slots, space); each = λ q l. r.each q (omega arith) }

    pub remembering_idle : i < boats b → get_or qs i 0 ≡ 0 → Remembering b s qs old memory (i + 1)
    remembering_idle h e =
        record {
          within = omega arith;
          slots = r.slots;
          each = λ q l some. r.each q (by q (omega arith) some (ltb q i) refl) some;
        }
      where
        by : (q : ℕ) → q ≤ i → 1 ≤ get_or qs q 0 → (t : Bool) → ltb q i ≡ t → q < i
        by q l some true f = ltb-true q i f
        by q l some false f = let z : q ≡ i = omega (arith, ltb-false q i f) in absurd (omega (arith, e, rw z at some))

    module _ (h : i < boats b) where
      room : i * boats b + boats b ≤ length memory
      room = omega (arith, rows_apart i (boats b) (boats b) h, space, r.slots)

      few_slots : i * boats b ≤ 65536
      few_slots = omega (arith, mul-le-mul_right (boats b) (le i h), (book_fits b s ok).most_boats)
        where
          le : (x : ℕ) → x < boats b → x ≤ 256
          le x g = omega (arith, (book_fits b s ok).most_boats)

      abbrev row : List ℤ
      row = boat_products b s i

      row_long : boats b ≤ length row
      row_long = omega (arith, product_count b s ok i)

      abbrev pasted : List ℤ
      pasted = paste memory (i * boats b) (boat_products b s i) (boats b)

      pasted_long : length pasted ≡ length memory
      pasted_long = length-paste memory (i * boats b) row (boats b) room row_long

      here : Products b s i (drop (i * boats b) pasted)
      here =
          record {
            room = rw length-drop (omega (arith, pasted_long, room));
            are = part_there memory row (i * boats b) (boats b) 0 room row_long ∙ take_all (boats b) row (omega (arith, product_count b s ok i));
          }

      there : (q : ℕ) → q < i → Products b s q (drop (q * boats b) memory) → Products b s q (drop (q * boats b) pasted)
      there q l P =
          record {
            room = rw length-drop (omega (arith, pasted_long, rows_apart q i (boats b) l, room));
            are = part_before memory row (i * boats b) (boats b) (q * boats b) room row_long (rows_apart q i (boats b) l) ∙ P.are;
          }

      -- the memory from the row on, as it is lent and comes back
      whole_part : take (length memory - i * boats b) (drop (i * boats b) memory) ≡ drop (i * boats b) memory
      whole_part = take_all (length memory - i * boats b) (drop (i * boats b) memory) (rw length-drop (omega arith))

      put_back : {part : List ℤ} → part ≡ boat_products b s i ++ drop (boats b) (take (length memory - i * boats b) (drop (i * boats b) memory)) →
          put_mid (i * boats b) (length memory - i * boats b) memory part ≡ pasted
      put_back ep =
          let at = i * boats b in
          let n : length memory - at ≡ length (drop at memory) = sym (length-drop at memory) in
          rw (ep, whole_part, n, drop-length (drop at memory), append-nil, drop-drop (boats b) at memory)
          (ap (λ (x : List ℤ). take at memory ++ (x ++ drop (at + boats b) memory)) (sym (take_all (boats b) row (omega (arith, product_count b s ok i))))
          ∙ sym (append_assoc (take at memory) (take (boats b) row) (drop (at + boats b) memory)))

      module _ {l : Layout} (e : l ≡ file_layout b s) where
        pub row_fits : Fits w64 (i * l.boats)
        unfolding file_layout
        row_fits = rw e (record { fits = omega (arith, few_slots) })

        pub row_bytes_fit : Fits w64 (i * l.boats * 4)
        unfolding file_layout
        row_bytes_fit = rw e (record { fits = omega (arith, few_slots) })

        pub row_starts : i * l.boats ≤ length memory
        unfolding file_layout
        row_starts = rw e (omega (arith, room))

        pub row_part : boats b ≤ length (take (length memory - i * l.boats) (drop (i * l.boats) memory))
        unfolding file_layout
        row_part = rw (e, whole_part) (rw length-drop (omega (arith, room)))

        pub remembering_held : {part : List ℤ} → part ≡ boat_products b s i ++ drop (boats b) (take (length memory - i * l.boats) (drop (i * l.boats) memory)) →
            Remembering b s qs old (put_mid (i * l.boats) (length memory - i * l.boats) memory part) (i + 1)
        unfolding file_layout
        remembering_held ep =
            rw e (rw (put_back (rw e at ep))
            (record {
              within = omega arith;
              slots = pasted_long ∙ r.slots;
              each = λ q l some. by q (omega arith) some (ltb q i) refl;
            }))
          where
            by : (q : ℕ) → q ≤ i → 1 ≤ get_or qs q 0 → (t : Bool) → ltb q i ≡ t → Products b s q (drop (q * boats b) pasted)
            by q l some true f = there q (ltb-true q i f) (r.each q (ltb-true q i f) some)
            by q l some false f = let z : q ≡ i = omega (arith, ltb-false q i f) in rw z here

-- ---- A row of the memory is read

module _ (b s : List ℕ) (ok : files_refusal b s ≡ 0) {qs : List ℕ} {memory : List ℤ} (r : HeldProducts b s qs memory) (i : ℕ) (h : i < boats b) (some : 1 ≤ get_or qs i 0) where
  pub row_room : i * boats b + boats b ≤ length memory
  row_room = omega (arith, rows_apart i (boats b) (boats b) h, r.room)

  pub row_at : take (boats b) (drop (i * boats b) memory) ≡ boat_products b s i
  row_at = (r.each i h some).are

  pub product_at : (q : ℕ) → q < boats b → get_or memory (i * boats b + q) (pos 0) ≡ get_or (boat_products b s i) q (pos 0)
  product_at q k = sym (get_or-drop (i * boats b) memory q (pos 0)) ∙ sym (get_or-take (boats b) (drop (i * boats b) memory) q (pos 0) k) ∙ ap (λ (x : List ℤ). get_or x q (pos 0)) row_at
