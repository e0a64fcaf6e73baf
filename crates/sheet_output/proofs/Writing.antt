-- Values written one after the other, 2 bytes each.
use mathlib.Core.Path.{◌≡◌, refl, sym, ap, ◌∙◌}
use mathlib.Core.Bool.{true}
use mathlib.Core.List.{List, ◌∷◌, ◌++◌}
use Prim.Native.Nat.{ℕ, suc, ◌+◌, ◌*◌, ◌≤◌, ◌<◌}
use native.Mathlib.Omega.{arith}
use native.Mathlib.Numerals.{add-one}
use lib.IntN.{ℤ, pos}
use lib.ListN.{length, get_or, take, drop, drop_of_length-le}
use lib.Seq.{drop-cons, get_or-take, length-take-le}
use mir.Syntax.{w16}
use mir.Val.{to_z, of_z}
use Rattle.integers.proofs.Bounds.{read}
use Rattle.files.specs.Bytes.{number_bytes, all_in_range}
use Rattle.files.proofs.Accepted.{value_bounds}
use Rattle.files.proofs.Bytes.{length_bytes}
use Rattle.buffers.specs.Placed.{placed}
use Rattle.buffers.proofs.Writing.{Writing, writing_start, writing_more, writing_end}
use Rattle.sheet_output.specs.Output.{bits, values_bytes}
use Rattle.sheet_output.proofs.Values.{length_values_bytes}

next_value : (vs : List ℤ) (i : ℕ) → i < length vs → values_bytes (drop i vs) ≡ number_bytes 2 (bits (get_or vs i (pos 0))) ++ values_bytes (drop (i + 1) vs)
unfolding values_bytes
next_value vs i h = ap values_bytes (drop-cons vs i (pos 0) h) ∙ first (get_or vs i (pos 0)) (drop (suc i) vs) ∙ rw add-one refl
  where
    first : (x : ℤ) (xs : List ℤ) → values_bytes (x ∷ xs) ≡ number_bytes 2 (bits x) ++ values_bytes xs
    first x xs = refl

-- of the first `count` values, those before i are written
pub record ValuesWritten (out : List ℕ) (count : ℕ) (vs : List ℤ) (i : ℕ) (now : List ℕ) : Type 0 where
  pub within : i ≤ count
  pub so_far : Writing out 0 (values_bytes (take count vs)) (2 * i) (values_bytes (drop i (take count vs))) now

pub values_start : {out : List ℕ} {count : ℕ} {vs : List ℤ} → ValuesWritten out count vs 0 out
values_start = record { within = omega arith; so_far = writing_start }

module _ {out : List ℕ} {count : ℕ} {vs : List ℤ} {i : ℕ} {now : List ℕ} (w : ValuesWritten out count vs i now) (L : count ≤ length vs) (R : 2 * count ≤ length out) where
  long : length (take count vs) ≡ count
  long = length-take-le count vs L

  bytes_long : length (values_bytes (take count vs)) ≡ 2 * count
  bytes_long = length_values_bytes (take count vs) ∙ ap (λ (n : ℕ). 2 * n) long

  pub values_room : i < count → 2 * i + 2 ≤ length now
  values_room h = omega (arith, w.so_far.long)

  pub values_more : all_in_range (take count vs) ≡ true → i < count → {b : ℕ} → b ≡ bits (to_z w16 (of_z w16 (get_or vs i (pos 0)))) → {new : List ℕ} → new ≡ placed now (2 * i) (number_bytes 2 b) → ValuesWritten out count vs (i + 1) new
  values_more good h {b} eb en =
      let x = get_or (take count vs) i (pos 0) in
      let e : get_or vs i (pos 0) ≡ x = sym (get_or-take count vs i (pos 0) h) in
      let k : to_z w16 (of_z w16 (get_or vs i (pos 0))) ≡ x = rw e (read w16 2000 (value_bounds (take count vs) good i) tt) in
      let s : values_bytes (drop i (take count vs)) ≡ number_bytes 2 b ++ values_bytes (drop (i + 1) (take count vs)) =
      rw (eb, k) (next_value (take count vs) i (omega (arith, long))) in
      record {
        within = omega arith;
        so_far = writing_more w.so_far (number_bytes 2 b) (values_bytes (drop (i + 1) (take count vs))) s (omega (arith, bytes_long)) (omega (arith, length_bytes 2 b)) en;
      }

  pub values_end : count ≤ i → now ≡ placed out 0 (values_bytes (take count vs))
  unfolding values_bytes
  values_end h = writing_end w.so_far (ap values_bytes (drop_of_length-le (take count vs) {i = i} (rw long h)))

  pub values_long : length now ≡ length out
  values_long = w.so_far.long
