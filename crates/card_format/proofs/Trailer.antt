-- A card's trailer, written and read back; and the parts of a file that is a front, pairs and a trailer.
use mathlib.Core.Path.{◌≡◌, refl, sym, ap, ◌∙◌}
use mathlib.Core.Bool.{true}
use mathlib.Core.List.{List, ◌++◌, append_assoc}
use Prim.Native.Nat.{ℕ, ◌+◌, ◌-◌, ◌≤◌, ◌<◌}
use native.Mathlib.Omega.{arith}
use lib.ListN.{length, take, drop, length-append, take-append-drop}
use lib.Seq.{drop-drop, drop_at, take_at}
use Rattle.files.specs.Bytes.{number_bytes, all_bytes, little_endian, number, trailer, body}
use Rattle.method.specs.declared.Test.{Test}
use Rattle.method.specs.declared.Test.TheVariants.{Former, Sharper}
use Rattle.card_format.specs.Format.{Fields, letters, trailer_bytes, fields}
use Rattle.files.proofs.Bytes.{read_bytes, field}

-- ---- Fields

-- each number keeps to the width of its field
pub record FieldsFit (f : Fields) : Type 0 where
  pub back : f.back < 4294967296
  pub verdict : f.verdict < 65536
  pub steps : f.steps < 65536
  pub tolerance : f.tolerance < 4294967296
  pub distance : f.distance < 18446744073709551616
  pub gap : f.gap < 18446744073709551616
  pub boats : f.boats < 65536
  pub columns : f.columns < 65536

pub length_trailer : (test : Test) (f : Fields) → length (trailer_bytes test f) ≡ 36
unfolding trailer_bytes number_bytes letters
length_trailer Former f = refl
length_trailer Sharper f = refl

pub letters_written : (test : Test) (f : Fields) → drop 32 (trailer_bytes test f) ≡ letters test
unfolding trailer_bytes number_bytes
letters_written test f = refl

-- the number at each offset is the one written there
module _ (test : Test) (f : Fields) where
  back_at : number 0 4 (trailer_bytes test f) ≡ little_endian (number_bytes 4 f.back)
  unfolding number trailer_bytes number_bytes
  back_at = refl

  verdict_at : number 4 2 (trailer_bytes test f) ≡ little_endian (number_bytes 2 f.verdict)
  unfolding number trailer_bytes number_bytes
  verdict_at = refl

  steps_at : number 6 2 (trailer_bytes test f) ≡ little_endian (number_bytes 2 f.steps)
  unfolding number trailer_bytes number_bytes
  steps_at = refl

  tolerance_at : number 8 4 (trailer_bytes test f) ≡ little_endian (number_bytes 4 f.tolerance)
  unfolding number trailer_bytes number_bytes
  tolerance_at = refl

  distance_at : number 12 8 (trailer_bytes test f) ≡ little_endian (number_bytes 8 f.distance)
  unfolding number trailer_bytes number_bytes
  distance_at = refl

  gap_at : number 20 8 (trailer_bytes test f) ≡ little_endian (number_bytes 8 f.gap)
  unfolding number trailer_bytes number_bytes
  gap_at = refl

  boats_at : number 28 2 (trailer_bytes test f) ≡ little_endian (number_bytes 2 f.boats)
  unfolding number trailer_bytes number_bytes
  boats_at = refl

  columns_at : number 30 2 (trailer_bytes test f) ≡ little_endian (number_bytes 2 f.columns)
  unfolding number trailer_bytes number_bytes
  columns_at = refl

-- a trailer written reads back
pub fields_read : (test : Test) (f : Fields) → FieldsFit f → fields (trailer_bytes test f) ≡ f
unfolding fields
fields_read test f h =
    rw (
      back_at test f ∙ read_bytes 4 f.back h.back,
      verdict_at test f ∙ read_bytes 2 f.verdict h.verdict,
      steps_at test f ∙ read_bytes 2 f.steps h.steps,
      tolerance_at test f ∙ read_bytes 4 f.tolerance h.tolerance,
      distance_at test f ∙ read_bytes 8 f.distance h.distance,
      gap_at test f ∙ read_bytes 8 f.gap h.gap,
      boats_at test f ∙ read_bytes 2 f.boats h.boats,
      columns_at test f ∙ read_bytes 2 f.columns h.columns,
    )

-- a trailer read is written again
pub fields_written : (test : Test) (t : List ℕ) → all_bytes t ≡ true → length t ≡ 36 → drop 32 t ≡ letters test → trailer_bytes test (fields t) ≡ t
unfolding trailer_bytes fields
fields_written test t all l e =
    rw (
      ← e,
      field 30 2 t all (omega arith),
      field 28 2 t all (omega arith),
      field 20 8 t all (omega arith),
      field 12 8 t all (omega arith),
      field 8 4 t all (omega arith),
      field 6 2 t all (omega arith),
      field 4 2 t all (omega arith),
      field 0 4 t all (omega arith),
    )

-- ---- A file that ends with pairs and a trailer of 36 bytes

module _ (front ps t : List ℕ) (l : length t ≡ 36) where
  pub file_length : length (front ++ (ps ++ t)) ≡ length front + (length ps + 36)
  file_length = length-append front (ps ++ t) ∙ ap (λ n. length front + n) (length-append ps t ∙ ap (λ n. length ps + n) l)

  pub file_trailer : trailer 36 (front ++ (ps ++ t)) ≡ t
  unfolding trailer
  file_trailer =
      let n = length (front ++ (ps ++ t)) - 36 in
      ap (drop n) (sym (append_assoc front ps t)) ∙ drop_at (front ++ ps) t n (length-append front ps ∙ (omega (arith, file_length)))

  pub file_body : body 36 (length ps) (front ++ (ps ++ t)) ≡ ps
  unfolding body
  file_body = rw (drop_at front (ps ++ t) (length (front ++ (ps ++ t)) - 36 - length ps) (omega (arith, file_length))) (take_at ps t (length ps) refl)

-- any file whose back count starts inside it
pub file_parts : (w : List ℕ) (back : ℕ) → back + 36 ≤ length w → w ≡ take (length w - 36 - back) w ++ (body 36 back w ++ trailer 36 w)
unfolding body trailer
file_parts w back h =
    let m = length w - 36 - back in
    let e : length w - 36 ≡ m + back = omega arith in
    sym (take-append-drop m w) ∙ ap (λ r. take m w ++ r) (sym (take-append-drop back (drop m w)) ∙ ap (λ r. take back (drop m w) ++ r) (drop-drop back m w ∙ ap (λ n. drop n w) (sym e)))
