-- The rows of two books put one after the other: what the loop over the second book keeps, and its laws.
use mathlib.Core.Path.{◌≡◌, refl, sym, ap, ◌∙◌}
use mathlib.Core.Bool.{Bool, true, false}
use mathlib.Core.List.{List, [], ◌∷◌}
use Prim.Native.Nat.{ℕ, suc, ◌+◌, ◌*◌, ◌-◌, ◌≤◌, ◌<◌}
use native.Mathlib.Nat.{suc-mul, add-mul, zero-mul, mul-le-mul, mul-le-mul_right}
use native.Mathlib.Numerals.{add-one}
use native.Mathlib.Omega.{arith}
use lib.ListN.{length, get_or, take, drop, length-take, length-drop, drop_of_length-le}
use lib.Seq.{drop-append-add, drop-drop, drop-cons, take_all, length-take-le}
use lib.IntN.{ℤ}
use Rattle.frank_wolfe.specs.Vectors.{Among}
use Rattle.files.specs.Bytes.{values}
use Rattle.files.specs.Book.{boats, columns, rows, rows_from, rows_offset, all_rows_in_range, book_refusal}
use Rattle.files.proofs.Accepted.{book_accepted}
use Rattle.files.proofs.Access.{rows_at, row_at}
use Rattle.files.proofs.Rows.{values_take_some}
use Rattle.buffers.specs.Placed.{placed}
use Rattle.buffers.proofs.Placing.{placed_nil, placed_next}
use Rattle.sheet_output.specs.Output.{values_bytes}
use Rattle.book_output.specs.Output.{rows_bytes}
use Rattle.book_output.proofs.Rows.{length_rows_bytes, rows_back}
use Rattle.derived_files.proofs.Rows.{cells_most}
use Rattle.merged_book.specs.Merging.{is_among, with_row, with_rows, merged_rows}
use Rattle.merged_book.proofs.Rows.{among_at, known_row, new_row, row_length, row_length_most, rows_taken, rows_before}
use Rattle.merged_book.proofs.Book.{all_rows, merged_wide, merged_row}
use Rattle.merge_books.specs.Putting.{new_bytes}
use Rattle.derived_files.proofs.Bytes.{Bytes, bytes_drop, values_same, rows_same}
use Rattle.merge_books.proofs.Bytes.{rows_one}
use Rattle.merge_books.proofs.Putting.{no_bytes, all_bytes}

-- what is put over bytes that end no later
placed_over : (out xs ys : List ℕ) → length xs ≤ length ys → length ys ≤ length out → placed (placed out 0 xs) 0 ys ≡ placed out 0 ys
unfolding placed
placed_over out xs ys h k =
    let m = length ys - length xs in
    let e : 0 + length ys ≡ length xs + m = omega arith in
    let z : 0 + length xs + m ≡ length xs + m = omega arith in
    rw (e, drop-append-add xs (drop (0 + length xs) out) m, drop-drop m (0 + length xs) out, z)

rows_next : (vs : List (List ℤ)) (w : List ℤ) (ws : List (List ℤ)) → with_rows (with_row vs w) ws ≡ with_rows vs (w ∷ ws)
unfolding with_rows
rows_next vs w ws = refl

rows_none : (vs : List (List ℤ)) → with_rows vs [] ≡ vs
unfolding with_rows
rows_none vs = refl

-- after i rows of the second book, n rows are in the buffer
pub record Merging (out a b : List ℕ) (n at i : ℕ) (now : List ℕ) : Type 0 where
  pub seen : List (List ℤ)
  pub within : i ≤ boats b
  pub place : at ≡ rows_offset b + 2 * (i * columns b)
  pub count : length seen ≡ n
  pub least : boats a ≤ n
  pub most : n ≤ 257
  pub long : length now ≡ length out
  pub holds : now ≡ placed out 0 (rows_bytes seen)
  pub later : with_rows seen (drop i (rows b)) ≡ merged_rows a b

pub columns_most : (b : List ℕ) → book_refusal b ≡ 0 → {c : ℕ} → c ≡ columns b → c ≤ 64
columns_most b ok ec = omega (arith, ec, (book_accepted b ok).most_columns)

-- the rows of an accepted book have at most 16,384 values and lie inside it
pub book_cells : (b : List ℕ) → book_refusal b ≡ 0 → {n c : ℕ} → n ≡ boats b → c ≡ columns b → n * c ≤ 16384
book_cells b ok en ec = cells_most (omega (arith, (book_accepted b ok).most_boats)) (columns_most b ok ec)

pub body_inside : (b : List ℕ) → book_refusal b ≡ 0 → {n c body : ℕ} → n ≡ boats b → c ≡ columns b → body ≡ rows_offset b → body + 2 * (n * c) ≤ length b
body_inside b ok en ec eb = rw (en, ec, eb) (omega (arith, (book_accepted b ok).whole))

pub body_room : (b : List ℕ) → book_refusal b ≡ 0 → (body : ℕ) {n c room : ℕ} → n ≡ boats b → c ≡ columns b → 32896 ≤ room → 0 + length (take (body + 2 * (n * c) - body) (drop body b)) ≤ room
body_room b ok body en ec h = simp length-take (omega (arith, book_cells b ok en ec))

-- two accepted books of as many columns, and room for 257 rows
pub record Pair (out a b : List ℕ) : Type 0 where
  pub first : book_refusal a ≡ 0
  pub second : book_refusal b ≡ 0
  pub same : columns a ≡ columns b
  pub room : 32896 ≤ length out

module _ {out a b : List ℕ} (p : Pair out a b) where
  -- how many bytes n rows have
  pub rows_room : (n : ℕ) → n ≤ 257 → n * columns a ≤ 16448
  rows_room n h = mul-le-mul h (book_accepted a p.first).most_columns

  first_rows : Bytes a → rows_bytes (rows a) ≡ take (2 * (boats a * columns a)) (drop (rows_offset a) a)
  first_rows f =
      let w = book_accepted a p.first in
      ap rows_bytes (rows_at a) ∙ rows_same (boats a) (columns a) (drop (rows_offset a) a) (bytes_drop (rows_offset a) a f) (rw length-drop (omega (arith, w.whole)))

  first_long : length (rows_bytes (rows a)) ≡ 2 * (boats a * columns a)
  first_long = let w = book_accepted a p.first in length_rows_bytes (columns a) (rows a) (λ i h. w.row_length i (omega (arith, w.row_count))) ∙ rw w.row_count

  -- the buffer with the first book's rows in it, which the loop starts with
  pub first_put : (entry : List ℕ) → Bytes a → {n c body : ℕ} → n ≡ boats a → c ≡ columns a → body ≡ rows_offset a →
      out ≡ placed entry 0 (take (body + 2 * (n * c) - body) (drop body a)) → out ≡ placed entry 0 (rows_bytes (rows a))
  first_put entry f {n} {c} {body} en ec eb ew =
      let z : rows_offset a + 2 * (boats a * columns a) - rows_offset a ≡ 2 * (boats a * columns a) = omega arith in
      ew ∙ rw (en, ec, eb, z, ← first_rows f)

  pub merging_start : (entry : List ℕ) → 32896 ≤ length entry → out ≡ placed entry 0 (rows_bytes (rows a)) → {n at : ℕ} → n ≡ boats a → at ≡ rows_offset b → Merging out a b n at 0 out
  unfolding merged_rows
  merging_start entry r e {n} {at} en ea =
      let w = book_accepted a p.first in
      record {
        seen = rows a;
        within = omega arith;
        place = omega (arith, ea, zero-mul (columns b));
        count = w.row_count ∙ sym en;
        least = omega (arith, en);
        most = omega (arith, en, w.most_boats);
        long = refl;
        holds = e ∙ sym (ap (λ o. placed o 0 (rows_bytes (rows a))) e ∙ placed_over entry (rows_bytes (rows a)) (rows_bytes (rows a)) (omega arith) (omega (arith, first_long, rows_room (boats a) (omega (arith, w.most_boats)))));
        later = refl;
      }

  module _ {n at i : ℕ} {now : List ℕ} (d : Merging out a b n at i now) where
    in_merged : {v : List ℤ} → Among d.seen v → Among (merged_rows a b) v
    in_merged m = rw d.later at (rows_before d.seen (drop i (rows b)) m)

    seen_wide : (j : ℕ) → j < length d.seen → length (get_or d.seen j []) ≡ columns a
    seen_wide j h = (merged_wide a b p.first p.second p.same).each _ (in_merged (among_at d.seen j h))

    seen_range : all_rows_in_range d.seen ≡ true
    seen_range = all_rows d.seen (λ v m. merged_row a b p.first p.second p.same v (in_merged m))

    seen_long : length (rows_bytes d.seen) ≡ 2 * (n * columns a)
    seen_long = length_rows_bytes (columns a) d.seen seen_wide ∙ rw d.count

    pub merging_room : 2 * (n * columns a) ≤ 32896
    merging_room = omega (arith, rows_room n d.most)

    -- the rows in the buffer are those that were seen
    seen_back : rows_from n (columns a) now ≡ d.seen
    unfolding placed
    seen_back = rw (d.holds, ← d.count) (rows_back (columns a) d.seen _ seen_wide seen_range)

    -- ---- the next row
    module _ (h : i < boats b) {end : ℕ} (ee : end ≡ at + 2 * columns a) where
      pub row_inside : end ≤ length b
      row_inside = omega (arith, ee, d.place, p.same, mul-le-mul_right (columns b) h, suc-mul i (columns b), (book_accepted b p.second).whole)

      abbrev next : List ℤ
      next = get_or (rows b) i []

      abbrev part : List ℕ
      part = take (end - at) (drop at b)

      part_is : part ≡ take (2 * columns a) (drop at b)
      part_is = let z : at + 2 * columns a - at ≡ 2 * columns a = omega arith in rw (ee, z)

      pub part_long : length part ≡ 2 * columns a
      part_long = ap length part_is ∙ length-take-le (2 * columns a) (drop at b) (rw length-drop (omega (arith, row_inside, ee)))

      next_at : values (columns a) (drop at b) ≡ next
      next_at = rw (p.same, d.place) (sym (row_at b i h))

      part_values : values (columns a) part ≡ next
      part_values = rw (part_is, values_take_some (columns a) (2 * columns a) (drop at b) (omega arith)) next_at

      part_bytes : Bytes b → part ≡ values_bytes next
      part_bytes f = part_is ∙ sym (values_same (columns a) (drop at b) (bytes_drop at b f) (rw length-drop (omega (arith, row_inside, ee)))) ∙ ap values_bytes next_at

      later_more : with_rows (with_row d.seen next) (drop (i + 1) (rows b)) ≡ merged_rows a b
      later_more =
          rw add-one (rows_next d.seen next (drop (suc i) (rows b))) ∙ sym (ap (with_rows d.seen) (drop-cons (rows b) i [] (omega (arith, (book_accepted b p.second).row_count)))) ∙ d.later

      -- the buffer with the next row, where it is new
      holds_more : Bytes b → {new : List ℕ} → new ≡ placed now (2 * (n * columns a)) (new_bytes d.seen (columns a) part) → (t : Bool) → is_among d.seen next ≡ t →
          new ≡ placed out 0 (rows_bytes (with_row d.seen next))
      holds_more f ew true e =
          ew ∙ ap (placed now (2 * (n * columns a))) (no_bytes d.seen (columns a) part (rw part_values e)) ∙ placed_nil now (2 * (n * columns a)) ∙ d.holds
          ∙ sym (ap (λ vs. placed out 0 (rows_bytes vs)) (known_row d.seen next e))
      holds_more f ew false e =
          rw (new_row d.seen next e, rows_one d.seen next)
          (placed_next out 0 (rows_bytes d.seen) (values_bytes next) (2 * (n * columns a)) d.holds
          (ew ∙ ap (placed now (2 * (n * columns a))) (all_bytes d.seen (columns a) part (rw part_values e) ∙ part_bytes f)) (omega (arith, seen_long))
          (omega (arith, seen_long, merging_room, p.room)))

      pub merging_more : Bytes b → n ≤ 256 → {c count : ℕ} {new : List ℕ} → c ≡ columns a → count ≡ length (with_row (rows_from n c now) (values c part)) →
          new ≡ placed now (2 * (n * c)) (new_bytes (rows_from n c now) c part) → length new ≡ length now → Merging out a b count end (i + 1) new
      merging_more f few {c} {count} {new} ec en ew el =
          let e : count ≡ length (with_row d.seen next) = en ∙ rw (ec, seen_back, part_values) in
          record {
            seen = with_row d.seen next;
            within = omega arith;
            place = omega (arith, ee, d.place, p.same, add-mul i 1 (columns b));
            count = sym e;
            least = omega (arith, e, row_length d.seen next, d.count, d.least);
            most = omega (arith, e, row_length_most d.seen next, d.count);
            long = el ∙ d.long;
            holds = holds_more f (rw (ec, seen_back) at ew) (is_among d.seen next) refl;
            later = later_more;
          }

    -- ---- the end: all rows of the second book are there, or 257 rows are
    module _ (entry : List ℕ) (r : 32896 ≤ length entry) (o : out ≡ placed entry 0 (rows_bytes (rows a))) where
      ended : d.seen ≡ take 257 (merged_rows a b) → (n ≡ length (take 257 (merged_rows a b))) × (now ≡ placed entry 0 (rows_bytes (take 257 (merged_rows a b))))
      ended e =
          let l : boats a * columns a ≤ n * columns a = mul-le-mul_right (columns a) d.least in
          let s : now ≡ placed entry 0 (rows_bytes d.seen) =
          d.holds ∙ ap (λ x. placed x 0 (rows_bytes d.seen)) o ∙ placed_over entry (rows_bytes (rows a)) (rows_bytes d.seen) (omega (arith, first_long, seen_long)) (omega (arith, seen_long, merging_room)) in
          (sym d.count ∙ ap length e, s ∙ ap (λ vs. placed entry 0 (rows_bytes vs)) e)

      pub merging_end : boats b ≤ i → (n ≡ length (take 257 (merged_rows a b))) × (now ≡ placed entry 0 (rows_bytes (take 257 (merged_rows a b))))
      merging_end h =
          let z : drop i (rows b) ≡ [] = drop_of_length-le (rows b) {i = i} (omega (arith, (book_accepted b p.second).row_count)) in
          let e : d.seen ≡ merged_rows a b = sym (rows_none d.seen) ∙ sym (ap (with_rows d.seen) z) ∙ d.later in
          ended (sym (take_all 257 d.seen (omega (arith, d.count, d.most))) ∙ ap (take 257) e)

      pub merging_full : 256 < n → (n ≡ length (take 257 (merged_rows a b))) × (now ≡ placed entry 0 (rows_bytes (take 257 (merged_rows a b))))
      merging_full h =
          let e : length d.seen ≡ 257 = omega (arith, d.count, d.most) in
          ended (sym (rows_taken d.seen (drop i (rows b))) ∙ rw (d.later, e))
