-- The columns of a derived file, by number, and the bytes of a row in these columns, as the loops write them.
use mathlib.Core.Path.{◌≡◌, refl, ap, ◌∙◌}
use mathlib.Core.List.{List, [], ◌∷◌, ◌++◌}
use Prim.Native.Nat.{ℕ, suc, ◌+◌, ◌*◌, ◌≤◌, ◌<◌}
use native.Mathlib.Omega.{arith}
use native.Mathlib.Numerals.{add-one}
use lib.ListN.{length, get_or, drop, set, replicate, length-append, length-replicate, length-set, drop_of_length-le}
use lib.Seq.{drop-cons}
use Rattle.frank_wolfe.specs.Vectors.{sum}
use Rattle.buffers.specs.Placed.{placed}
use Rattle.buffers.proofs.Placing.{placed_set, placed_then}
use Rattle.buffers.proofs.Writing.{Writing, writing_start, writing_room, writing_more, writing_end}
use Rattle.derived_files.specs.Places.{places, cells}

-- ---- the places of all columns
pub length_places : (j : ℕ) (fs : List ℕ) → length (places j fs) ≡ sum fs
unfolding places sum
length_places j [] = refl
length_places j (f ∷ fs) = length-append (replicate f j) (places (suc j) fs) ∙ (omega (arith, length-replicate f j, length_places (suc j) fs))

places_more : (j f : ℕ) (fs : List ℕ) → places j (f ∷ fs) ≡ replicate f j ++ places (suc j) fs
unfolding places
places_more j f fs = refl

places_none : (j : ℕ) → places j [] ≡ []
unfolding places
places_none j = refl

-- the places of the columns before j are written, up to `at`
pub record Placing (out fs : List ℕ) (at j : ℕ) (now : List ℕ) : Type 0 where
  pub within : j ≤ length fs
  pub written : Writing out 0 (places 0 fs) at (places j (drop j fs)) now

pub places_start : {out fs : List ℕ} → Placing out fs 0 0 out
places_start = record { within = omega arith; written = writing_start }

module _ {out fs : List ℕ} {at j : ℕ} {now : List ℕ} (d : Placing out fs at j now) where
  next_place : j < length fs → places j (drop j fs) ≡ replicate (get_or fs j 0) j ++ places (j + 1) (drop (j + 1) fs)
  next_place h = ap (places j) (drop-cons fs j 0 h) ∙ rw (places_more, add-one)

  pub place_room : j < length fs → at + get_or fs j 0 ≤ sum fs
  place_room h =
      omega (arith, writing_room d.written (replicate (get_or fs j 0) j) (places (j + 1) (drop (j + 1) fs)) (next_place h), length-replicate (get_or fs j 0) j, length_places 0 fs)

  pub places_next : j < length fs → sum fs ≤ length out → {f next : ℕ} {new : List ℕ} → f ≡ get_or fs j 0 → next ≡ at + f → new ≡ placed now at (replicate f j) → Placing out fs next (j + 1) new
  places_next h k {f} ef en ew =
      record { within = omega arith; written = writing_more d.written (replicate (get_or fs j 0) j) (places (j + 1) (drop (j + 1) fs)) (next_place h) (omega (arith, length_places 0 fs)) (omega (arith, length-replicate (get_or fs j 0) j)) (rw ef at ew) }

  none_left : length fs ≤ j → places j (drop j fs) ≡ []
  none_left h = ap (places j) (drop_of_length-le fs {i = j} h) ∙ places_none j

  pub places_end : length fs ≤ j → (at ≡ sum fs) × (now ≡ placed out 0 (places 0 fs))
  places_end h = (omega (arith, d.written.inside, ap length (none_left h), length_places 0 fs), writing_end d.written (none_left h))

-- ---- the cells of a row
-- two bytes
placed_two : (out : List ℕ) (at a b : ℕ) → at + 2 ≤ length out → set (set out at a) (at + 1) b ≡ placed out at (a ∷ (b ∷ []))
placed_two out at a b h =
    placed_set (set out at a) (at + 1) b (omega (arith, length-set out at a))
    ∙ rw (placed_set out at a (omega arith)) (placed_then out at (a ∷ []) (b ∷ []) (omega arith))

cells_more : (bs : List ℕ) (from j : ℕ) (js : List ℕ) → cells bs from (j ∷ js) ≡ (get_or bs (from + 2 * j) 0 ∷ (get_or bs (from + 2 * j + 1) 0 ∷ [])) ++ cells bs from js
unfolding cells
cells_more bs from j js = refl

cells_none : (bs : List ℕ) (from : ℕ) → cells bs from [] ≡ []
unfolding cells
cells_none bs from = refl

length_cells : (bs : List ℕ) (from : ℕ) (js : List ℕ) → length (cells bs from js) ≡ 2 * length js
unfolding cells
length_cells bs from [] = refl
length_cells bs from (j ∷ js) = omega (arith, length_cells bs from js)

-- the first k cells are written
pub record Copying (out : List ℕ) (at : ℕ) (bs : List ℕ) (from : ℕ) (ps : List ℕ) (k : ℕ) (now : List ℕ) : Type 0 where
  pub within : k ≤ length ps
  pub written : Writing out at (cells bs from ps) (at + 2 * k) (cells bs from (drop k ps)) now

pub copy_start : {out : List ℕ} {at : ℕ} {bs : List ℕ} {from : ℕ} {ps : List ℕ} → Copying out at bs from ps 0 out
copy_start {at = at} = let p : at + 2 * 0 ≡ at = omega arith in record { within = omega arith; written = rw p writing_start }

module _ {out : List ℕ} {at : ℕ} {bs : List ℕ} {from : ℕ} {ps : List ℕ} {k : ℕ} {now : List ℕ} (d : Copying out at bs from ps k now) where
  next_cell : k < length ps → cells bs from (drop k ps) ≡ (get_or bs (from + 2 * get_or ps k 0) 0 ∷ (get_or bs (from + 2 * get_or ps k 0 + 1) 0 ∷ [])) ++ cells bs from (drop (k + 1) ps)
  next_cell h = ap (cells bs from) (drop-cons ps k 0 h) ∙ rw (cells_more, add-one k)

  pub copy_more : k < length ps → at + 2 * length ps ≤ length out → {j : ℕ} → j ≡ get_or ps k 0 → Copying out at bs from ps (k + 1) (set (set now (at + 2 * k) (get_or bs (from + 2 * j) 0)) (at + 2 * k + 1) (get_or bs (from + 2 * j + 1) 0))
  copy_more h r {j} e =
      let low = get_or bs (from + 2 * get_or ps k 0) 0 in
      let high = get_or bs (from + 2 * get_or ps k 0 + 1) 0 in
      record { within = omega arith; written = writing_more d.written (low ∷ (high ∷ [])) (cells bs from (drop (k + 1) ps)) (next_cell h) (omega (arith, length_cells bs from ps)) (omega arith) (rw e (placed_two now (at + 2 * k) low high (omega (arith, d.written.long)))) }

  pub copy_end : length ps ≤ k → now ≡ placed out at (cells bs from ps)
  copy_end h = writing_end d.written (ap (cells bs from) (drop_of_length-le ps {i = k} h) ∙ cells_none bs from)
