-- The rows of the boats that may be used, written one after the other.
use mathlib.Core.Path.{◌≡◌, refl, ap, ◌∙◌}
use mathlib.Core.Bool.{Bool, true, false, cond}
use mathlib.Core.List.{List, [], ◌∷◌, ◌++◌}
use Prim.Native.Nat.{ℕ, zero, suc, ◌+◌, ◌*◌, ◌-◌, ◌≤◌, ◌<◌}
use native.Mathlib.Nat.{suc-mul, zero-mul, add-mul, mul-le-mul_right}
use native.Mathlib.Omega.{arith}
use native.Mathlib.Numerals.{add-one}
use lib.ListN.{length, get_or, take, drop, length-drop, drop_of_length-le}
use lib.Seq.{drop-cons, length-take-le}
use lib.IntN.{ℤ}
use Rattle.files.specs.Bytes.{all_in_range}
use Rattle.files.specs.Book.{boats, columns, rows, rows_offset, all_rows_in_range, book_refusal}
use Rattle.files.proofs.Refusal.{and_true}
use Rattle.files.proofs.Access.{row_at}
use Rattle.files.proofs.Accepted.{book_accepted}
use Rattle.buffers.specs.Placed.{placed}
use Rattle.buffers.proofs.Writing.{Writing, writing_start, writing_more, writing_end}
use Rattle.sheet_output.specs.Output.{values_bytes}
use Rattle.book_output.specs.Output.{rows_bytes}
use Rattle.book_output.proofs.Rows.{length_rows_bytes}
use Rattle.derived_files.proofs.Bytes.{Bytes, bytes_drop, values_same}
use Rattle.derived_files.proofs.Rows.{cells_most}
use Rattle.method.specs.ReleasedBoats.{Usable, may_use, used_from, kept}
use Rattle.method.proofs.ReleasedBoats.{length_kept}
use Rattle.released_set.proofs.Ranks.{rank_most}

-- ---- What holds of every row holds of those that are kept

pub kept_every : (P : List ℤ → Type 0) (u : Usable) (i : ℕ) (vs : List (List ℤ)) → ((j : ℕ) → j < length vs → P (get_or vs j [])) → (j : ℕ) → j < length (kept u i vs) → P (get_or (kept u i vs) j [])
unfolding kept
kept_every P u i [] f j h = absurd (omega arith)
kept_every P u i (v ∷ vs) f j h = by (may_use u i) (λ k l. kept_every P u (suc i) vs (λ n m. f (suc n) (omega arith)) k l) j h
  where
    by : (t : Bool) → ((k : ℕ) → k < length (kept u (suc i) vs) → P (get_or (kept u (suc i) vs) k [])) → (j : ℕ) →
        j < length (cond t (v ∷ kept u (suc i) vs) (kept u (suc i) vs)) → P (get_or (cond t (v ∷ kept u (suc i) vs) (kept u (suc i) vs)) j [])
    by true g zero h = f 0 (omega arith)
    by true g (suc j) h = g j (omega arith)
    by false g j h = g j h

pub kept_in_range : (u : Usable) (i : ℕ) (vs : List (List ℤ)) → all_rows_in_range vs ≡ true → all_rows_in_range (kept u i vs) ≡ true
unfolding kept all_rows_in_range
kept_in_range u i [] h = refl
kept_in_range u i (v ∷ vs) h = let p = and_true (all_in_range v) _ h in by (may_use u i) p.0 (kept_in_range u (suc i) vs p.1)
  where
    by : (t : Bool) → all_in_range v ≡ true → all_rows_in_range (kept u (suc i) vs) ≡ true → all_rows_in_range (cond t (v ∷ kept u (suc i) vs) (kept u (suc i) vs)) ≡ true
    by true a e = rw a e
    by false a e = e

-- ---- Their bytes

-- those of the next boat, and those behind
next_row : (u : Usable) (i : ℕ) (v : List ℤ) (vs : List (List ℤ)) (row : List ℕ) → values_bytes v ≡ row →
    rows_bytes (kept u i (v ∷ vs)) ≡ cond (may_use u i) row [] ++ rows_bytes (kept u (suc i) vs)
unfolding kept rows_bytes
next_row u i v vs row e = by (may_use u i)
  where
    by : (t : Bool) → rows_bytes (cond t (v ∷ kept u (suc i) vs) (kept u (suc i) vs)) ≡ cond t row [] ++ rows_bytes (kept u (suc i) vs)
    by true = rw e
    by false = refl

no_rows : (u : Usable) (i : ℕ) → rows_bytes (kept u i []) ≡ []
unfolding kept rows_bytes
no_rows u i = refl

module _ (u : Usable) (b : List ℕ) (ok : book_refusal b ≡ 0) where
  pub rows_long : length (rows_bytes (kept u 0 (rows b))) ≡ 2 * (length (used_from u 0 (boats b)) * columns b)
  rows_long =
      let f = book_accepted b ok in
      length_rows_bytes (columns b) (kept u 0 (rows b)) (kept_every (λ v. length v ≡ columns b) u 0 (rows b) (λ j h. f.row_length j (omega (arith, f.row_count))))
      ∙ rw (length_kept u 0 (rows b), f.row_count)

  pub rows_most : length (used_from u 0 (boats b)) * columns b ≤ 16384
  rows_most = let f = book_accepted b ok in cells_most (omega (arith, rank_most u 0 (boats b), f.most_boats)) f.most_columns

-- ---- What the loop keeps: the rows of the boats before boat i are written, up to `at`; the next row is read at `from`
pub record Rowing (u : Usable) (out b : List ℕ) (from at i : ℕ) (now : List ℕ) : Type 0 where
  pub within : i ≤ boats b
  pub source : from ≡ rows_offset b + 2 * (i * columns b)
  pub most : at ≤ 2 * (i * columns b)
  pub written : Writing out 0 (rows_bytes (kept u 0 (rows b))) at (rows_bytes (kept u i (drop i (rows b)))) now

pub rowing_start : (u : Usable) (out b : List ℕ) {from : ℕ} → from ≡ rows_offset b → Rowing u out b from 0 0 out
rowing_start u out b e = record { within = omega arith; source = omega (arith, e, zero-mul (columns b)); most = omega arith; written = writing_start }

module _ {u : Usable} {out b : List ℕ} {from at i : ℕ} {now : List ℕ} (d : Rowing u out b from at i now) (ok : book_refusal b ≡ 0) (room : 32768 ≤ length out) where
  -- the row's end
  row_end : i < boats b → i * columns b + columns b ≤ boats b * columns b
  row_end h = omega (arith, mul-le-mul_right (columns b) h, suc-mul i (columns b))

  cells : boats b * columns b ≤ 16384
  cells = let f = book_accepted b ok in cells_most f.most_boats f.most_columns

  module _ (h : i < boats b) {width : ℕ} (ew : width ≡ 2 * columns b) where
    pub row_inside : from + width ≤ length b
    row_inside = omega (arith, d.source, ew, row_end h, (book_accepted b ok).whole)

    pub row_length : length (take (from + width - from) (drop from b)) ≡ width
    row_length = length-take-le (from + width - from) (drop from b) (rw length-drop (omega (arith, row_inside))) ∙ (omega arith)

    pub row_room : at + length (take (from + width - from) (drop from b)) ≤ length now
    row_room = omega (arith, row_length, d.most, ew, row_end h, cells, room, d.written.long)

    pub rowing_more : Bytes b → {used : Bool} → used ≡ may_use u i → {after : ℕ} {new : List ℕ} →
        after ≡ at + length (cond used (take (from + width - from) (drop from b)) []) → new ≡ placed now at (cond used (take (from + width - from) (drop from b)) []) →
        Rowing u out b (from + width) after (i + 1) new
    rowing_more f {used} t {after} {new} ea en =
        let row = take (from + width - from) (drop from b) in
        let c = columns b in
        let z : from + width - from ≡ 2 * c = omega (arith, ew) in
        let v = get_or (rows b) i [] in
        let e : values_bytes v ≡ row =
        ap values_bytes (row_at b i h) ∙ rw (← d.source, z) (values_same c (drop from b) (bytes_drop from b f) (rw length-drop (omega (arith, row_inside, ew)))) in
        let next : rows_bytes (kept u i (drop i (rows b))) ≡ cond used row [] ++ rows_bytes (kept u (i + 1) (drop (i + 1) (rows b))) =
        ap (λ l. rows_bytes (kept u i l)) (drop-cons (rows b) i [] (omega (arith, (book_accepted b ok).row_count))) ∙ (rw (t, add-one i) (next_row u i v (drop (suc i) (rows b)) row e)) in
        record {
          within = omega arith;
          source = omega (arith, d.source, ew, add-mul i 1 c);
          most = omega (arith, d.most, add-mul i 1 c, ea, row_length, ew, few used row);
          written = writing_more d.written (cond used row []) _ next (omega (arith, rows_long u b ok, rows_most u b ok, room)) ea en;
        }
      where
        few : (t : Bool) (row : List ℕ) → length (cond t row []) ≤ length row
        few true row = omega arith
        few false row = omega arith

  pub rowing_end : boats b ≤ i → (at ≡ length (rows_bytes (kept u 0 (rows b)))) × (now ≡ placed out 0 (rows_bytes (kept u 0 (rows b))))
  rowing_end h =
      let e : rows_bytes (kept u i (drop i (rows b))) ≡ [] = ap (λ l. rows_bytes (kept u i l)) (drop_of_length-le (rows b) {i = i} (omega (arith, (book_accepted b ok).row_count))) ∙ no_rows u i in
      (omega (arith, d.written.inside, ap length e), writing_end d.written e)
