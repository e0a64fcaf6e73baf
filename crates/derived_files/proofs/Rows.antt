-- The rows of a derived book: a row's cells as values, and the boats one after the other.
use mathlib.Core.Path.{◌≡◌, refl, ap, ◌∙◌}
use mathlib.Core.Bool.{Bool, true, false, cond}
use mathlib.Core.List.{List, [], ◌∷◌, ◌++◌, map}
use Prim.Native.Nat.{ℕ, suc, ◌+◌, ◌*◌, ◌-◌, ◌/◌, ◌%◌, ◌≤◌, ◌<◌}
use native.Mathlib.Nat.{suc-mul, zero-mul, add-mul, mul-le-mul, mul-le-mul_right}
use native.Mathlib.Omega.{arith}
use native.Mathlib.Numerals.{add-one}
use lib.Dec.{ltb}
use lib.ListN.{length, get_or, drop, length-append, length-map, drop_of_length-le}
use lib.Seq.{drop-cons}
use lib.IntN.{ℤ, pos, negsuc}
use mir.Syntax.{w8}
use mir.Val.{Fits}
use Rattle.files.specs.Bytes.{number_bytes, number, value, values}
use Rattle.files.specs.Book.{boats, columns, rows, rows_offset, book_refusal}
use Rattle.files.proofs.Numbers.{number_2}
use Rattle.files.proofs.Rows.{value_of_values}
use Rattle.files.proofs.Access.{row_at, cell_inside}
use Rattle.files.proofs.Accepted.{book_accepted}
use Rattle.buffers.specs.Placed.{placed}
use Rattle.sheet_output.specs.Output.{bits, values_bytes}
use Rattle.sheet_output.proofs.Values.{length_values_bytes}
use Rattle.buffers.proofs.Writing.{Writing, writing_start, writing_more, writing_end}
use Rattle.book_output.specs.Output.{rows_bytes}
use Rattle.derived_files.specs.Places.{picked, cells, picked_rows_bytes, Inside, Below}

-- ---- one value: 16 bits read and written again
bits_by : (t : Bool) (w : ℕ) → ltb w 32768 ≡ t → w < 65536 → bits (cond t (pos w) (negsuc (65535 - w))) ≡ w
unfolding bits
bits_by true w e h = refl
bits_by false w e h = omega arith

value_bits : (w : ℕ) → w < 65536 → bits (value w) ≡ w
unfolding value
value_bits w h = bits_by (ltb w 32768) w refl h

-- its two bytes at an offset
value_bytes : (at : ℕ) (bs : List ℕ) → ((i : ℕ) → Fits w8 (get_or bs i 0)) → number_bytes 2 (bits (value (number at 2 bs))) ≡ get_or bs at 0 ∷ (get_or bs (at + 1) 0 ∷ [])
unfolding number_bytes
value_bytes at bs f =
    let low = get_or bs at 0 in
    let high = get_or bs (at + 1) 0 in
    let h : low < 256 = (f at).fits in
    let k : high < 256 = (f (at + 1)).fits in
    let l : (low + 256 * high) % 256 ≡ low = omega arith in
    let d : (low + 256 * high) / 256 ≡ high = omega arith in
    let u : high % 256 ≡ high = omega arith in
    rw (number_2, value_bits (low + 256 * high) (omega arith), l, d, u)

-- ---- a row's cells
picked_more : (j : ℕ) (js : List ℕ) (v : List ℤ) → values_bytes (picked (j ∷ js) v) ≡ number_bytes 2 (bits (get_or v j (pos 0))) ++ values_bytes (picked js v)
unfolding picked values_bytes
picked_more j js v = refl

length_picked : (ps : List ℕ) (v : List ℤ) → length (picked ps v) ≡ length ps
unfolding picked
length_picked ps v = length-map ps (λ j. get_or v j (pos 0))

module _ (bs : List ℕ) (f : (i : ℕ) → Fits w8 (get_or bs i 0)) (from c : ℕ) where
  pub cells_are : (ps : List ℕ) → Below c ps → cells bs from ps ≡ values_bytes (picked ps (values c (drop from bs)))
  unfolding cells
  cells_are [] h = unfold picked values_bytes in refl
  cells_are (j ∷ js) h =
      rw (picked_more, value_of_values c j from bs (h 0 (omega arith)), value_bytes (from + 2 * j) bs f, cells_are js (λ k l. h (suc k) (omega arith)))

-- ---- all boats
pub cells_most : {n count : ℕ} → n ≤ 256 → count ≤ 64 → n * count ≤ 16384
cells_most h k = mul-le-mul h k

-- the offset of a row in a derived book and in the book
pub row_starts : (b : List ℕ) → book_refusal b ≡ 0 → {n i count : ℕ} → n ≡ boats b → i < n → count ≤ 64 → i * count ≤ 16384
row_starts b ok e h k = cells_most (omega (arith, (book_accepted b ok).most_boats)) k

pub cell_starts : (b : List ℕ) → book_refusal b ≡ 0 → {n i c : ℕ} → n ≡ boats b → i < n → c ≡ columns b → i * c ≤ 16384
cell_starts b ok e h k = row_starts b ok e h (omega (arith, (book_accepted b ok).most_columns))

pub row_inside : (b : List ℕ) (i from : ℕ) (ps : List ℕ) → book_refusal b ≡ 0 → i < boats b → from ≡ rows_offset b + 2 * (i * columns b) → Below (columns b) ps → Inside b from ps
row_inside b i from ps ok h ef s k l = omega (arith, cell_inside (boats b) (columns b) i (get_or ps k 0) h (s k l), (book_accepted b ok).whole)

-- the end of row i is inside n rows
row_ends : (n i count : ℕ) → i < n → i * count + count ≤ n * count
row_ends n i count h = omega (arith, mul-le-mul_right count h, suc-mul i count)

rows_more : (ps : List ℕ) (v : List ℤ) (vs : List (List ℤ)) → rows_bytes (map (picked ps) (v ∷ vs)) ≡ values_bytes (picked ps v) ++ rows_bytes (map (picked ps) vs)
unfolding rows_bytes
rows_more ps v vs = refl

rows_none : (ps : List ℕ) → rows_bytes (map (picked ps) []) ≡ []
unfolding rows_bytes
rows_none ps = refl

pub length_picked_rows : (ps : List ℕ) (vs : List (List ℤ)) → length (rows_bytes (map (picked ps) vs)) ≡ 2 * (length vs * length ps)
unfolding rows_bytes
length_picked_rows ps [] = omega (arith, zero-mul (length ps))
length_picked_rows ps (v ∷ vs) =
    length-append (values_bytes (picked ps v)) (rows_bytes (map (picked ps) vs))
    ∙ (omega (arith, length_values_bytes (picked ps v), length_picked ps v, length_picked_rows ps vs, suc-mul (length vs) (length ps)))

-- the rows of the first i boats are written
pub record Rowing (out b ps : List ℕ) (i : ℕ) (now : List ℕ) : Type 0 where
  pub within : i ≤ boats b
  pub written : Writing out 0 (picked_rows_bytes ps b) (2 * (i * length ps)) (rows_bytes (map (picked ps) (drop i (rows b)))) now

pub rowing_start : (out b ps : List ℕ) → Rowing out b ps 0 out
rowing_start out b ps =
    let e : 2 * (0 * length ps) ≡ 0 = omega (arith, zero-mul (length ps)) in
    record { within = omega arith; written = rw e writing_start }

module _ {out b ps : List ℕ} {i : ℕ} {now : List ℕ} (d : Rowing out b ps i now) (ok : book_refusal b ≡ 0) (few : length ps ≤ 64) (s : Below (columns b) ps) (r : 32768 ≤ length out) where
  all_room : 0 + length (picked_rows_bytes ps b) ≤ length out
  all_room =
      let k = book_accepted b ok in
      omega (arith, length_picked_rows ps (rows b), cells_most {n = length (rows b)} (omega (arith, k.row_count, k.most_boats)) few)

  next_row : i < boats b → rows_bytes (map (picked ps) (drop i (rows b))) ≡ values_bytes (picked ps (get_or (rows b) i [])) ++ rows_bytes (map (picked ps) (drop (i + 1) (rows b)))
  next_row h = ap (λ vs. rows_bytes (map (picked ps) vs)) (drop-cons (rows b) i [] (omega (arith, (book_accepted b ok).row_count))) ∙ rw (rows_more, add-one)

  pub row_room : i < boats b → 2 * (i * length ps) + 2 * length ps ≤ length now
  row_room h =
      let k = book_accepted b ok in
      omega (arith, row_ends (boats b) i (length ps) h, cells_most {n = boats b} k.most_boats few, d.written.long)

  pub rowing_more : i < boats b → ((j : ℕ) → Fits w8 (get_or b j 0)) → {from : ℕ} {new : List ℕ} → from ≡ rows_offset b + 2 * (i * columns b) → new ≡ placed now (2 * (i * length ps)) (cells b from ps) → Rowing out b ps (i + 1) new
  rowing_more h f {from} ef ew =
      let v = get_or (rows b) i [] in
      let e : cells b from ps ≡ values_bytes (picked ps v) = cells_are b f from (columns b) ps s ∙ rw (row_at b i h, ef) in
      record {
        within = omega arith;
        written = writing_more d.written (values_bytes (picked ps v)) (rows_bytes (map (picked ps) (drop (i + 1) (rows b)))) (next_row h) all_room (omega (arith, add-mul i 1 (length ps), length_values_bytes (picked ps v), length_picked ps v)) (rw e at ew);
      }

  pub rowing_end : boats b ≤ i → now ≡ placed out 0 (picked_rows_bytes ps b)
  rowing_end h = writing_end d.written (ap (λ vs. rows_bytes (map (picked ps) vs)) (drop_of_length-le (rows b) {i = i} (omega (arith, (book_accepted b ok).row_count))) ∙ rows_none ps)
