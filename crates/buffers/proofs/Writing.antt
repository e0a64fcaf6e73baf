-- Bytes written one part after the other: what every loop that fills a buffer from one end keeps, and its three laws.
use mathlib.Core.Path.{◌≡◌, refl, sym, ap, ◌∙◌}
use mathlib.Core.List.{List, [], ◌∷◌, ◌++◌}
use Prim.Native.Nat.{ℕ, suc, ◌+◌, ◌-◌, ◌/◌, ◌%◌, ◌≤◌, ◌<◌}
use native.Mathlib.Omega.{arith}
use native.Mathlib.Numerals.{add-one}
use lib.ListN.{length, get_or, take, drop, set, length-append, drop_of_length-le}
use lib.Seq.{take_at, drop-cons}
use Rattle.files.specs.Bytes.{number_bytes}
use Rattle.files.proofs.Bytes.{length_bytes}
use Rattle.buffers.specs.Placed.{placed}
use Rattle.buffers.proofs.Placing.{placed_nil, placed_length, placed_then, placed_set}

-- of `whole`, which is to stand from `start` on, `rest` is left, from `at` on
pub record Writing (out : List ℕ) (start : ℕ) (whole : List ℕ) (at : ℕ) (rest now : List ℕ) : Type 0 where
  pub long : length now ≡ length out
  pub inside : at + length rest ≡ start + length whole
  pub later : placed now at rest ≡ placed out start whole

pub writing_start : {out : List ℕ} {start : ℕ} {whole : List ℕ} → Writing out start whole start whole out
writing_start = record { long = refl; inside = refl; later = refl }

module _ {out : List ℕ} {start : ℕ} {whole : List ℕ} {at : ℕ} {rest now : List ℕ} (w : Writing out start whole at rest now) (xs ys : List ℕ) (e : rest ≡ xs ++ ys) where
  pub writing_room : at + length xs + length ys ≡ start + length whole
  writing_room = omega (arith, w.inside, ap length e, length-append xs ys)

  pub writing_more : start + length whole ≤ length out → {next : ℕ} {new : List ℕ} → next ≡ at + length xs → new ≡ placed now at xs → Writing out start whole next ys new
  writing_more h {next} {new} en ew =
      let k : at + length xs ≤ length now = omega (arith, writing_room, w.long) in
      record {
        long = ap length ew ∙ placed_length now at xs k ∙ w.long;
        inside = omega (arith, writing_room);
        later = rw (en, ew) (placed_then now at xs ys k ∙ (rw e at w.later));
      }

pub writing_end : {out : List ℕ} {start : ℕ} {whole : List ℕ} {at : ℕ} {rest now : List ℕ} → Writing out start whole at rest now → rest ≡ [] → now ≡ placed out start whole
writing_end {at = at} {now = now} w e = sym (placed_nil now at) ∙ (rw e at w.later)

-- what was put at the front of a buffer
module _ (out xs : List ℕ) {n : ℕ} {now : List ℕ} (e : now ≡ placed out 0 xs) (en : n ≡ length xs) (h : length xs ≤ length out) where
  pub front_inside : n ≤ length now
  front_inside = omega (arith, ap length e, placed_length out 0 xs (omega arith))

  pub front_taken : take n now ≡ xs
  unfolding placed
  front_taken = rw e (take_at xs (drop (0 + length xs) out) n (sym en))

-- ---- bytes copied one after the other
pub record Copying (out : List ℕ) (at : ℕ) (bytes : List ℕ) (i : ℕ) (now : List ℕ) : Type 0 where
  pub within : i ≤ length bytes
  pub so_far : Writing out at bytes (at + i) (drop i bytes) now

pub copying_start : {out : List ℕ} {at : ℕ} {bytes : List ℕ} → Copying out at bytes 0 out
copying_start {out} {at} {bytes} =
    let e : at + 0 ≡ at = omega arith in
    record { within = omega arith; so_far = rw e writing_start }

module _ {out : List ℕ} {at : ℕ} {bytes : List ℕ} {i : ℕ} {now : List ℕ} (d : Copying out at bytes i now) where
  pub copying_more : at + length bytes ≤ length out → i < length bytes → Copying out at bytes (i + 1) (set now (at + i) (get_or bytes i 0))
  copying_more l h =
      let b = get_or bytes i 0 in
      let p : at + (i + 1) ≡ at + i + 1 = omega arith in
      record {
        within = omega arith;
        so_far =
            writing_more d.so_far (b ∷ []) (drop (i + 1) bytes) (drop-cons bytes i 0 h ∙ rw add-one) l p
            (placed_set now (at + i) b (omega (arith, d.so_far.long)));
      }

  pub copying_end : length bytes ≤ i → now ≡ placed out at bytes
  copying_end h = writing_end d.so_far (drop_of_length-le bytes {i = i} h)

-- ---- a number, byte by byte
bytes_none : (n : ℕ) → number_bytes 0 n ≡ []
unfolding number_bytes
bytes_none n = refl

bytes_more : (w n : ℕ) → number_bytes (suc w) n ≡ (n % 256) ∷ number_bytes w (n / 256)
unfolding number_bytes
bytes_more w n = refl

-- of the bytes of a number those of `rest` are left, the last of which is its highest
pub record Putting (out : List ℕ) (at width number i rest : ℕ) (now : List ℕ) : Type 0 where
  pub within : i ≤ width
  pub so_far : Writing out at (number_bytes width number) (at + i) (number_bytes (width - i) rest) now

pub put_start : {out : List ℕ} {at width number : ℕ} → Putting out at width number 0 number out
put_start {out} {at} {width} =
    let e : width - 0 ≡ width = omega arith in
    let p : at + 0 ≡ at = omega arith in
    record { within = omega arith; so_far = rw (e, p) writing_start }

module _ {out : List ℕ} {at width number i rest : ℕ} {now : List ℕ} (d : Putting out at width number i rest now) where
  pub put_more : at + width ≤ length out → i < width → Putting out at width number (i + 1) (rest / 256) (set now (at + i) (rest % 256))
  put_more h k =
      let e : width - i ≡ suc (width - (i + 1)) = omega arith in
      let p : at + (i + 1) ≡ at + i + 1 = omega arith in
      record {
        within = omega arith;
        so_far =
            writing_more d.so_far (rest % 256 ∷ []) (number_bytes (width - (i + 1)) (rest / 256)) (rw e (bytes_more (width - (i + 1)) rest))
            (omega (arith, length_bytes width number)) p (placed_set now (at + i) (rest % 256) (omega (arith, d.so_far.long)));
      }

  pub put_end : width ≤ i → now ≡ placed out at (number_bytes width number)
  put_end h =
      let e : width - i ≡ 0 = omega arith in
      writing_end d.so_far (rw e (bytes_none rest))
