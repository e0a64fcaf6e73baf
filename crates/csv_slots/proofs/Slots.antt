-- One token kept: the slot of its field has one byte more, every other is as it was.
use mathlib.Core.Path.{◌≡◌, refl, sym, ap, ◌∙◌}
use mathlib.Core.Bool.{Bool, true, false, cond}
use mathlib.Core.List.{List, [], ◌∷◌, ◌++◌, append-nil}
use Prim.Native.Nat.{ℕ, ◌+◌, ◌-◌, ◌*◌, ◌≤◌, ◌<◌}
use native.Mathlib.Numerals.{add-one}
use native.Mathlib.Omega.{arith}
use borrow.Author.Tests.{ltb-true, ltb-false, eqb-true, eqb-false, eq-eqb, ne_eqb, lt-ltb, le-ltb}
use lib.Dec.{ltb, eqb}
use lib.ListN.{length, get_or, take, drop, set, length-set, length-drop}
use lib.Seq.{get_or-set_same, get_or-set_other, take-set-le, drop-set-lt, drop-set-add, take-suc-set}
use Rattle.csv_bytes.specs.declared.Token.{Token}
use Rattle.csv_bytes.specs.declared.Token.TheVariants.{Byte, Field, Line, End, Nothing, Stray, Open}
use Rattle.csv_bytes.specs.Tokens.{token_number}
use Rattle.csv_fields.specs.Fields.{byte_if}
use Rattle.csv_cells.specs.Cells.{Place, moved, is_in, cell_byte}
use Rattle.csv_cells.proofs.Celling.{in_no_byte, in_fault, in_other_row, in_row}
use Rattle.csv_slots.specs.Slots.{slot, Room, Kept}

-- ---- slots
differ : (i j : ℕ) → i ≤ j → (i ≡ j → ⊥) → i < j
differ i j l z = go (ltb i j) refl
  where
    go : (w : Bool) → ltb i j ≡ w → i < j
    go true w = ltb-true i j w
    go false w = absurd (z (omega (arith, ltb-false i j w)))

-- the slot of another field
slot_other : (sizes cells : List ℕ) (s n v b : ℕ) → n < 200 → (t : ℕ) → (t ≡ s → ⊥) → get_or sizes t 0 ≤ 200 → slot t (set sizes s v) (set cells (200 * s + n) b) ≡ slot t sizes cells
slot_other sizes cells s n v b h t e small = rw (get_or-set_other sizes s t v 0 e) (by (ltb t s) refl)
  where
    by : (x : Bool) → ltb t s ≡ x → take (get_or sizes t 0) (drop (200 * t) (set cells (200 * s + n) b)) ≡ take (get_or sizes t 0) (drop (200 * t) cells)
    by true x =
        let l = ltb-true t s x in
        let q : 200 * s + n ≡ 200 * t + (200 * s + n - 200 * t) = omega arith in
        ap (λ (i : ℕ). take (get_or sizes t 0) (drop (200 * t) (set cells i b))) q
        ∙ ap (take (get_or sizes t 0)) (drop-set-add (200 * t) cells (200 * s + n - 200 * t) b)
        ∙ take-set-le (get_or sizes t 0) (drop (200 * t) cells) (200 * s + n - 200 * t) b (omega arith)
    by false x =
        let m : s < t = differ s t (ltb-false t s x) (λ z. e (sym z)) in
        ap (take (get_or sizes t 0)) (drop-set-lt (200 * t) cells (200 * s + n) b (omega arith))

-- its own
slot_own : (sizes cells : List ℕ) (s n b : ℕ) → n ≡ get_or sizes s 0 → s < length sizes → 200 * s + n < length cells → slot s (set sizes s (n + 1)) (set cells (200 * s + n) b) ≡ slot s sizes cells ++ (b ∷ [])
slot_own sizes cells s n b e h l =
    rw (get_or-set_same sizes s (n + 1) 0 h, drop-set-add (200 * s) cells n b, add-one, ← e)
    (take-suc-set (drop (200 * s) cells) n b (omega (arith, length-drop (200 * s) cells)))

-- ---- a token that is no byte of the rows
byte_none : (m k : ℕ) → byte_if false m k ≡ []
unfolding byte_if
byte_none m k = by (ltb m 200)
  where
    by : (a : Bool) → cond {A = List ℕ} a [] [] ≡ []
    by true = refl
    by false = refl

byte_full : (a : Bool) (m k : ℕ) → 200 ≤ m → byte_if a m k ≡ []
unfolding byte_if
byte_full a m k h = rw (le-ltb m 200 h)

byte_there : (m k : ℕ) → m < 200 → byte_if true m k ≡ k ∷ []
unfolding byte_if
byte_there m k h = rw (lt-ltb m 200 h)

none_in : (r f m : ℕ) (p : Place) (k : ℕ) → false ≡ is_in r f p k → cell_byte r f m p k ≡ []
none_in r f m p k e = ap (λ (b : Bool). byte_if b m k) (sym e) ∙ byte_none m k

pub no_byte : (t : Token) → ((b : ℕ) → t ≡ Byte b → ⊥) → 256 ≤ token_number t
no_byte (Byte b) h = absurd (h b refl)
no_byte Field h = omega arith
no_byte Line h = omega arith
no_byte End h = omega arith
no_byte Nothing h = omega arith
no_byte Stray h = omega arith
no_byte Open h = omega arith

module _ (first rows : ℕ) (p : Place) (k : ℕ) (sizes cells : List ℕ) (room : Room rows sizes cells) where
  as_was : ((d f : ℕ) → d < rows → f ≤ 64 → cell_byte (first + d) f (get_or sizes (65 * d + f) 0) p k ≡ []) → Kept first rows p k sizes cells sizes cells
  as_was none =
      record {
        room = room;
        text = λ d f h g. sym (ap (λ (x : List ℕ). slot (65 * d + f) sizes cells ++ x) (none d f h g) ∙ append-nil (slot (65 * d + f) sizes cells));
        size = λ d f h g. omega (arith, ap length (none d f h g));
      }

  pub keep_no_byte : 256 ≤ k → Kept first rows p k sizes cells sizes cells
  keep_no_byte h = as_was (λ d f i g. none_in (first + d) f _ p k (in_no_byte (first + d) f p k h))

  module _ (h : k < 256) {x : ℕ} (e : x ≡ (moved p k).fault) where
    pub keep_fault : (x ≡ 0 → ⊥) → Kept first rows p k sizes cells sizes cells
    keep_fault n = as_was (λ d f i g. none_in (first + d) f _ p k (in_fault (first + d) f p k h e n))

    module _ (z : x ≡ 0) where
      other_row : (d f : ℕ) → (p.row ≡ first + d → ⊥) → (m : ℕ) → cell_byte (first + d) f m p k ≡ []
      other_row d f n m = none_in (first + d) f m p k (in_other_row (first + d) f p k h e z n)

      other_field : (d f : ℕ) → p.row ≡ first + d → (p.field ≡ f → ⊥) → (m : ℕ) → cell_byte (first + d) f m p k ≡ []
      other_field d f n q m = none_in (first + d) f m p k (sym (ne_eqb p.field f q) ∙ in_row (first + d) f p k h e z n)

      pub keep_before : p.row < first → Kept first rows p k sizes cells sizes cells
      keep_before l = as_was (λ d f i g. other_row d f (λ q. omega arith) _)

      module _ (l : first ≤ p.row) where
        pub keep_beyond : rows ≤ p.row - first → Kept first rows p k sizes cells sizes cells
        keep_beyond n = as_was (λ d f i g. other_row d f (λ q. omega arith) _)

        module _ (n : p.row - first < rows) (w : p.field ≤ 64) {s size : ℕ} (es : s ≡ 65 * (p.row - first) + p.field) (en : size ≡ get_or sizes s 0) where
          -- which slot is meant
          data Slot (d f : ℕ) : Type 0 where
            own : 65 * d + f ≡ s → p.row ≡ first + d → p.field ≡ f → Slot d f
            other : (65 * d + f ≡ s → ⊥) → ((m : ℕ) → cell_byte (first + d) f m p k ≡ []) → Slot d f

          which : (d f : ℕ) → f ≤ 64 → Slot d f
          which d f g = by (eqb p.row (first + d)) (eqb p.field f) refl refl
            where
              apart : (a b : ℕ) → (a ≡ b → ⊥) → f ≤ 64 → (i : ℕ) → i ≤ 64 → 65 * a + f ≡ 65 * b + i → ⊥
              apart a b ne j i q c = go (ltb a b) refl
                where
                  go : (t : Bool) → ltb a b ≡ t → ⊥
                  go true t = let v = ltb-true a b t in omega arith
                  go false t = let v = differ b a (ltb-false a b t) (λ u. ne (sym u)) in omega arith

              by : (a b : Bool) → eqb p.row (first + d) ≡ a → eqb p.field f ≡ b → Slot d f
              by true true u v = let r = eqb-true p.row (first + d) u in let q = eqb-true p.field f v in own (omega arith) r q
              by true false u v =
                  let r = eqb-true p.row (first + d) u in
                  let q = eqb-false p.field f v in
                  other (λ c. q (omega arith)) (other_field d f r q)
              by false b u v =
                  let r = eqb-false p.row (first + d) u in
                  other (λ c. apart d (p.row - first) (λ t. r (omega arith)) g p.field w (c ∙ es)) (other_row d f r)

          pub keep_full : 200 ≤ size → Kept first rows p k sizes cells sizes cells
          keep_full v = as_was (λ d f i g. by d f (which d f g))
            where
              by : (d f : ℕ) → Slot d f → cell_byte (first + d) f (get_or sizes (65 * d + f) 0) p k ≡ []
              by d f (own c r q) = byte_full (is_in (first + d) f p k) (get_or sizes (65 * d + f) 0) k (rw c (omega arith))
              by d f (other c none) = none (get_or sizes (65 * d + f) 0)

          module _ (v : size < 200) where
            pub slot_inside : 200 * s + size < length cells
            slot_inside = omega (arith, room.cells_long)

            pub slot_there : s < length sizes
            slot_there = omega (arith, room.sizes_long)

            abbrev new_sizes : List ℕ
            new_sizes = set sizes s (size + 1)

            abbrev new_cells : List ℕ
            new_cells = set cells (200 * s + size) k

            in_own : (d f : ℕ) → p.row ≡ first + d → p.field ≡ f → 65 * d + f ≡ s → cell_byte (first + d) f (get_or sizes (65 * d + f) 0) p k ≡ k ∷ []
            in_own d f r q c =
                ap (λ (b : Bool). byte_if b (get_or sizes (65 * d + f) 0) k) (sym (in_row (first + d) f p k h e z r) ∙ eq-eqb p.field f q)
                ∙ byte_there (get_or sizes (65 * d + f) 0) k (rw c (omega arith))

            put_text : (d f : ℕ) → Slot d f → slot (65 * d + f) new_sizes new_cells ≡ slot (65 * d + f) sizes cells ++ cell_byte (first + d) f (get_or sizes (65 * d + f) 0) p k
            put_text d f (own c r q) = rw (in_own d f r q c, c) (slot_own sizes cells s size k en slot_there slot_inside)
            put_text d f (other c none) =
                slot_other sizes cells s size (size + 1) k v (65 * d + f) c (room.small (65 * d + f))
                ∙ sym (ap (λ (x : List ℕ). slot (65 * d + f) sizes cells ++ x) (none (get_or sizes (65 * d + f) 0)) ∙ append-nil (slot (65 * d + f) sizes cells))

            put_size : (d f : ℕ) → Slot d f → get_or new_sizes (65 * d + f) 0 ≡ get_or sizes (65 * d + f) 0 + length (cell_byte (first + d) f (get_or sizes (65 * d + f) 0) p k)
            put_size d f (own c r q) = rw (in_own d f r q c, c) (get_or-set_same sizes s (size + 1) 0 slot_there ∙ rw en)
            put_size d f (other c none) = omega (arith, get_or-set_other sizes s (65 * d + f) (size + 1) 0 c, ap length (none (get_or sizes (65 * d + f) 0)))

            small_still : (t : ℕ) → get_or new_sizes t 0 ≤ 200
            small_still t = by (eqb t s) refl
              where
                by : (b : Bool) → eqb t s ≡ b → get_or new_sizes t 0 ≤ 200
                by true c = rw (eqb-true t s c, get_or-set_same sizes s (size + 1) 0 slot_there) (omega arith)
                by false c = rw (get_or-set_other sizes s t (size + 1) 0 (eqb-false t s c)) (room.small t)

            pub keep_put : Kept first rows p k sizes cells (set sizes s (size + 1)) (set cells (200 * s + size) k)
            keep_put =
                record {
                  room =
                      record {
                        few = room.few;
                        sizes_long = length-set sizes s (size + 1) ∙ room.sizes_long;
                        cells_long = length-set cells (200 * s + size) k ∙ room.cells_long;
                        small = small_still;
                      };
                  text = λ d f i g. put_text d f (which d f g);
                  size = λ d f i g. put_size d f (which d f g);
                }
