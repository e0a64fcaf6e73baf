-- The tokens of a CSV kept one after the other: what is left of the text decides as the whole does.
use mathlib.Core.Path.{◌≡◌, refl, sym, ap, ◌∙◌}
use mathlib.Core.List.{List, ◌++◌, append-nil, append_assoc}
use Prim.Native.Nat.{ℕ, zero, suc, ◌+◌, ◌-◌, ◌*◌, ◌≤◌, ◌<◌}
use native.Mathlib.Omega.{arith}
use lib.ListN.{length, get_or, drop, length-drop, length-replicate, get_or-replicate, replicate, get_or-eq_default}
use lib.Seq.{length-take-le}
use lib.Dec.{ltb, eqb}
use mathlib.Core.Bool.{Bool, true, false, cond}
use borrow.Author.Tests.{ltb-true, ltb-false, eq-eqb, ne_eqb}
use Rattle.csv_bytes.specs.declared.Mode.{Mode}
use Rattle.csv_bytes.specs.declared.Mode.TheVariants.{Start}
use Rattle.csv_bytes.specs.Tokens.{NumberedStep, step, tokens, separator, mark_size, csv_tokens}
use Rattle.csv_fleet_reader.proofs.Reading.{next_tokens}
use Rattle.csv_cells.specs.Cells.{Place, start, moved, cell_byte, cell_from, cell_text, width_to, width}
use Rattle.csv_cells.proofs.Steps.{few_fields}
use Rattle.csv_cells.proofs.Places.{Within, within_start, within_more}
use Rattle.csv_cells.proofs.Celling.{no_bytes_left}
use Rattle.csv_slots.specs.Slots.{slot, Room, Empty, Kept, Held}

-- sizes of 0
pub zeros_empty : (n : ℕ) → Empty (replicate n 0)
zeros_empty n = record { none = λ s. by s (ltb s n) refl }
  where
    by : (s : ℕ) (b : Bool) → ltb s n ≡ b → ◌≡◌ {A = ℕ} (get_or (replicate n 0) s 0) 0
    by s true e = get_or-replicate n s 0 0 (ltb-true s n e)
    by s false e = get_or-eq_default (replicate n 0) 0 (omega (arith, ltb-false s n e, length-replicate {A = ℕ} n 0))

-- and slots for them
pub zeros_room : (rows n m : ℕ) → rows ≤ 16 → n ≡ 65 * rows → m ≡ 13000 * rows → Room rows (replicate n 0) (replicate m 0)
zeros_room rows n m h en em =
    record {
      few = h;
      sizes_long = length-replicate n 0 ∙ en;
      cells_long = length-replicate m 0 ∙ em;
      small = λ s. omega (arith, (zeros_empty n).none s);
    }

-- with the bytes that are still to come, each slot has its field
pub record Holding (first rows : ℕ) (csv : List ℕ) (sep : ℕ) (p : Place) (m : Mode) (i : ℕ) (sizes cells : List ℕ) : Type 0 where
  pub near : Within csv p i
  pub narrow : p.field ≤ 64
  pub room : Room rows sizes cells
  pub text : (d f : ℕ) → d < rows → f ≤ 64 → slot (65 * d + f) sizes cells ++ cell_from (first + d) f (get_or sizes (65 * d + f) 0) p (tokens sep m (drop i csv)) ≡ cell_text (first + d) f csv

pub holding_start : {first rows : ℕ} {csv : List ℕ} {sep i : ℕ} {p : Place} {sizes cells : List ℕ} → Room rows sizes cells → Empty sizes → sep ≡ separator csv → p ≡ start → i ≡ mark_size csv →
    Holding first rows csv sep p Start i sizes cells
unfolding cell_text csv_tokens
holding_start {csv = csv} room empty es ep ei =
    rw (es, ep, ei)
    (record {
      near = within_start csv;
      narrow = omega arith;
      room = room;
      text = λ d f h g. rw (empty.none (65 * d + f));
    })

module _ {first rows : ℕ} {csv : List ℕ} {sep : ℕ} {p : Place} {m : Mode} {i : ℕ} {sizes cells : List ℕ} (d : Holding first rows csv sep p m i sizes cells) where
  pub holding_more : i < length csv → {s : NumberedStep} → s ≡ step sep m (get_or csv i 0) → {q : Place} → q ≡ moved p s.token → {sizes' cells' : List ℕ} → Kept first rows p s.token sizes cells sizes' cells' →
      Holding first rows csv sep q s.mode (i + 1) sizes' cells'
  unfolding cell_from
  holding_more h {s} es eq {sizes'} {cells'} kept =
      rw eq
      (record {
        near = within_more d.near h s.token;
        narrow = few_fields p d.narrow s.token;
        room = kept.room;
        text = λ r f l g.
            let n = get_or sizes (65 * r + f) 0 in
            let b = cell_byte (first + r) f n p s.token in
            let rest = cell_from (first + r) f (n + length b) (moved p s.token) (tokens sep s.mode (drop (i + 1) csv)) in
            let t : cell_from (first + r) f n p (tokens sep m (drop i csv)) ≡ b ++ rest = ap (cell_from (first + r) f n p) (next_tokens sep m csv i h es) in
            rw (kept.text r f l g, kept.size r f l g) (append_assoc (slot (65 * r + f) sizes cells) b rest ∙ ap (λ (x : List ℕ). slot (65 * r + f) sizes cells ++ x) (sym t) ∙ d.text r f l g);
      })

  pub holding_end : length csv ≤ i → Held first rows csv sizes cells
  holding_end h = record { room = d.room; text = whole; size = λ r f l g. sym (filled r f l g) ∙ ap length (whole r f l g) }
    where
      whole : (r f : ℕ) → r < rows → f ≤ 64 → slot (65 * r + f) sizes cells ≡ cell_text (first + r) f csv
      whole r f l g =
          sym (append-nil (slot (65 * r + f) sizes cells))
          ∙ ap (λ (x : List ℕ). slot (65 * r + f) sizes cells ++ x) (sym (no_bytes_left (first + r) f (get_or sizes (65 * r + f) 0) sep p m csv i h))
          ∙ d.text r f l g

      filled : (r f : ℕ) → r < rows → f ≤ 64 → length (slot (65 * r + f) sizes cells) ≡ get_or sizes (65 * r + f) 0
      filled r f l g =
          length-take-le (get_or sizes (65 * r + f) 0) (drop (200 * (65 * r + f)) cells)
          (omega (arith, d.room.cells_long, d.room.small (65 * r + f), length-drop (200 * (65 * r + f)) cells))

-- ---- a slot that is there
pub slot_fits : {rows : ℕ} {sizes cells : List ℕ} → Room rows sizes cells → (s : ℕ) → s < 65 * rows → (s < length sizes) × (200 * s + get_or sizes s 0 ≤ length cells)
slot_fits room s h = (omega (arith, room.sizes_long), omega (arith, room.cells_long, room.small s))

pub slot_short : {rows : ℕ} {sizes cells : List ℕ} → Room rows sizes cells → (s : ℕ) → s < 65 * rows → length (slot s sizes cells) ≤ 200
slot_short {sizes = sizes} {cells = cells} room s h =
    omega (arith, room.small s, length-take-le (get_or sizes s 0) (drop (200 * s) cells) (omega (arith, (slot_fits room s h).1, length-drop (200 * s) cells)))

-- ---- the fields of one row
module _ {r : ℕ} {csv sizes cells : List ℕ} (held : Held r 1 csv sizes cells) (f : ℕ) (h : f ≤ 64) where
  pub field_held : slot f sizes cells ≡ cell_text r f csv
  field_held =
      let e : 65 * 0 + f ≡ f = omega arith in
      let q : r + 0 ≡ r = omega arith in
      rw (e, q) at (held.text 0 f (omega arith) h)

  pub size_held : get_or sizes f 0 ≡ length (cell_text r f csv)
  size_held =
      let e : 65 * 0 + f ≡ f = omega arith in
      let q : r + 0 ≡ r = omega arith in
      rw (e, q) at (held.size 0 f (omega arith) h)

-- ---- the first field of one of many rows
module _ {rows : ℕ} {csv sizes cells : List ℕ} (held : Held 0 rows csv sizes cells) (r : ℕ) (h : r < rows) where
  pub first_held : slot (65 * r) sizes cells ≡ cell_text r 0 csv
  first_held =
      let e : 65 * r + 0 ≡ 65 * r = omega arith in
      let q : 0 + r ≡ r = omega arith in
      rw (e, q) at (held.text r 0 h (omega arith))

-- ---- how many fields a row has: those after field n are empty
width_step : (r : ℕ) (csv : List ℕ) (n : ℕ) → (n ≡ 0 → ⊥) → width_to n r csv ≡ cond (eqb (length (cell_text r (n - 1) csv)) 0) (width_to (n - 1) r csv) n
unfolding width_to
width_step r csv zero h = absurd (h refl)
width_step r csv (suc n) h = let e : suc n - 1 ≡ n = omega arith in rw e

pub record Narrowing (r : ℕ) (csv : List ℕ) (n : ℕ) : Type 0 where
  pub later : width_to n r csv ≡ width r csv

pub narrowing_start : (r : ℕ) (csv : List ℕ) → Narrowing r csv 65
unfolding width
narrowing_start r csv = record { later = refl }

module _ {r : ℕ} {csv : List ℕ} {n : ℕ} (d : Narrowing r csv n) where
  module _ (h : n ≡ 0 → ⊥) {x : ℕ} (e : x ≡ length (cell_text r (n - 1) csv)) where
    pub narrowing_here : (x ≡ 0 → ⊥) → n ≡ width r csv
    narrowing_here z = sym (width_step r csv n h ∙ rw (← e, ne_eqb x 0 z)) ∙ d.later

    pub narrowing_more : x ≡ 0 → Narrowing r csv (n - 1)
    narrowing_more z = record { later = sym (width_step r csv n h ∙ rw (← e, eq-eqb x 0 z)) ∙ d.later }

  pub narrowing_end : n ≡ 0 → 0 ≡ width r csv
  unfolding width_to
  narrowing_end h = rw h at d.later
