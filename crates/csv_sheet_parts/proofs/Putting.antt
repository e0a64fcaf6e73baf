-- The values and factors of a row put one after the other, in the order of some places.
use mathlib.Core.Path.{◌≡◌, refl, ap, ◌∙◌}
use mathlib.Core.List.{List, [], ◌∷◌, ◌++◌, map}
use Prim.Native.Nat.{ℕ, ◌+◌, ◌*◌, ◌≤◌, ◌<◌}
use native.Mathlib.Numerals.{add-one}
use native.Mathlib.Omega.{arith}
use lib.ListN.{length, get_or, set, drop, length-map, drop_of_length-le}
use lib.Seq.{drop-cons}
use Rattle.files.specs.Bytes.{number_bytes}
use Rattle.files.proofs.Bytes.{length_bytes}
use Rattle.csv_bytes.specs.Cells.{signed}
use Rattle.csv_bytes.specs.declared.Cell.{Cell}
use Rattle.buffers.specs.Placed.{placed}
use Rattle.buffers.proofs.Placing.{placed_set}
use Rattle.sheet_output.specs.Output.{bits, values_bytes}
use Rattle.sheet_output.proofs.Values.{length_values_bytes}
use Rattle.buffers.proofs.Writing.{Writing, writing_start, writing_more, writing_end}
use Rattle.csv_sheet_parts.specs.Parts.{cell_at, row_for, value_at, target_of, factor_at, factors_of}

-- ---- values, 2 bytes each
pub record ValuesPut (ps csv out : List ℕ) (row i : ℕ) (now : List ℕ) : Type 0 where
  pub within : i ≤ length ps
  pub so_far : Writing out 0 (values_bytes (map (value_at row csv) ps)) (2 * i) (values_bytes (map (value_at row csv) (drop i ps))) now

pub values_start : {ps csv out : List ℕ} {row : ℕ} → ValuesPut ps csv out row 0 out
values_start = record { within = omega arith; so_far = writing_start }

next_value : (csv : List ℕ) (row : ℕ) (ps : List ℕ) (i : ℕ) → i < length ps →
    values_bytes (map (value_at row csv) (drop i ps)) ≡ number_bytes 2 (bits (value_at row csv (get_or ps i 0))) ++ values_bytes (map (value_at row csv) (drop (i + 1) ps))
unfolding values_bytes
next_value csv row ps i h = ap (λ (l : List ℕ). values_bytes (map (value_at row csv) l)) (drop-cons ps i 0 h) ∙ rw add-one

module _ {ps csv out : List ℕ} {row i : ℕ} {now : List ℕ} (d : ValuesPut ps csv out row i now) (l : 2 * length ps ≤ length out) where
  all_long : length (values_bytes (map (value_at row csv) ps)) ≡ 2 * length ps
  all_long = length_values_bytes (map (value_at row csv) ps) ∙ ap (λ (n : ℕ). 2 * n) (length-map ps (value_at row csv))

  pub values_room : i < length ps → 2 * i + 2 ≤ length now
  values_room h = omega (arith, d.so_far.long)

  pub values_more : i < length ps → {c : Cell} → c ≡ cell_at row (get_or ps i 0) csv → {b : ℕ} → b ≡ bits (signed c.negative c.magnitude) →
      {new : List ℕ} → new ≡ placed now (2 * i) (number_bytes 2 b) → ValuesPut ps csv out row (i + 1) new
  unfolding value_at
  values_more h ec {b} eb en =
      let s : values_bytes (map (value_at row csv) (drop i ps)) ≡ number_bytes 2 b ++ values_bytes (map (value_at row csv) (drop (i + 1) ps)) = rw (eb, ec) (next_value csv row ps i h) in
      record {
        within = omega arith;
        so_far = writing_more d.so_far (number_bytes 2 b) _ s (omega (arith, all_long)) (omega (arith, length_bytes 2 b)) en;
      }

  pub values_end : length ps ≤ i → row ≡ row_for 0 csv → now ≡ placed out 0 (values_bytes (target_of ps csv))
  unfolding target_of values_bytes
  values_end h e = rw (← e) (writing_end d.so_far (ap (λ (q : List ℕ). values_bytes (map (value_at row csv) q)) (drop_of_length-le ps {i = i} h)))

-- ---- factors, 1 byte each
pub record FactorsPut (ps csv out : List ℕ) (row i : ℕ) (now : List ℕ) : Type 0 where
  pub within : i ≤ length ps
  pub so_far : Writing out 0 (map (factor_at row csv) ps) i (map (factor_at row csv) (drop i ps)) now

pub factors_start : {ps csv out : List ℕ} {row : ℕ} → FactorsPut ps csv out row 0 out
factors_start = record { within = omega arith; so_far = writing_start }

next_factor : (csv : List ℕ) (row : ℕ) (ps : List ℕ) (i : ℕ) → i < length ps →
    map (factor_at row csv) (drop i ps) ≡ (factor_at row csv (get_or ps i 0) ∷ []) ++ map (factor_at row csv) (drop (i + 1) ps)
next_factor csv row ps i h = ap (λ (l : List ℕ). map (factor_at row csv) l) (drop-cons ps i 0 h) ∙ rw add-one

module _ {ps csv out : List ℕ} {row i : ℕ} {now : List ℕ} (d : FactorsPut ps csv out row i now) (l : length ps ≤ length out) where
  pub factors_more : i < length ps → {v : ℕ} → v ≡ factor_at row csv (get_or ps i 0) → FactorsPut ps csv out row (i + 1) (set now i v)
  factors_more h {v} e =
      let s : map (factor_at row csv) (drop i ps) ≡ (v ∷ []) ++ map (factor_at row csv) (drop (i + 1) ps) = rw e (next_factor csv row ps i h) in
      record {
        within = omega arith;
        so_far = writing_more d.so_far (v ∷ []) _ s (omega (arith, length-map ps (factor_at row csv))) refl (placed_set now i v (omega (arith, d.so_far.long)));
      }

  pub factors_end : length ps ≤ i → row ≡ row_for 2 csv → now ≡ placed out 0 (factors_of ps csv)
  unfolding factors_of
  factors_end h e = rw (← e) (writing_end d.so_far (ap (λ (q : List ℕ). map (factor_at row csv) q) (drop_of_length-le ps {i = i} h)))
