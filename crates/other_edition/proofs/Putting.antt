-- The conversion put together: front text and target as they are, then what follows the target.
use mathlib.Core.Path.{◌≡◌, refl, sym, ap, ◌∙◌}
use mathlib.Core.Bool.{Bool, true, false, cond}
use mathlib.Core.List.{List, [], ◌∷◌, ◌++◌, append_assoc, append-nil}
use Prim.Native.Nat.{ℕ, zero, suc, ◌+◌, ◌*◌, ◌-◌, ◌≤◌}
use native.Mathlib.Omega.{arith}
use borrow.Author.Tests.{eq-eqb, ne_eqb}
use borrow.Rule.Slice.PartMut.{put_mid, post_of, Post-is}
use native.Mathlib.Nat.{add_assoc, zero-add}
use lib.ListN.{length, take, drop, length-append, length-replicate, length-drop}
use lib.Seq.{take_all, take-add, drop-drop, drop-length, length-take-le}
use Rattle.frank_wolfe.specs.Vectors.{ones}
use Rattle.files.specs.Bytes.{all_bytes, same}
use Rattle.files.specs.Sheet.{sheet, sheet_columns, WSH1, WSH2, sheet_lettered, target_offset}
use Rattle.files.proofs.Accepted.{SheetPasses, sheet_passed}
use Rattle.files.proofs.Fields.{sheet_letters_at}
use Rattle.method.specs.Answers.{slots_after}
use Rattle.buffers.specs.Placed.{placed}
use Rattle.buffers.proofs.Placing.{placed_next, placed_length}
use Rattle.sheet_output.specs.Output.{values_bytes, sheet_trailer, sheet_bytes, factored_body, factored_bytes, edition_bytes}
use Rattle.sheet_output.proofs.Back.{sheet_trailer_length}
use Rattle.sheet_output.proofs.Values.{length_values_bytes}
use Rattle.editions.specs.Rewriting.{other_number, other_edition}
use Rattle.editions.proofs.Again.{front_and_target}
use Rattle.editions.proofs.Converting.{plain, other_long}
use Rattle.other_edition.specs.Ending.{ending, Convertible}

-- ---- the edition by its number
module _ (s : List ℕ) (h : 16 ≤ length s) (g : Bool) (eg : g ≡ same (drop (length s - 4) s) WSH2) where
  pub number_1 : g ≡ true → 1 ≡ other_number s
  unfolding other_number
  number_1 t = simp (sheet_letters_at s h WSH2, ← eg, t)

  pub number_2 : g ≡ false → 2 ≡ other_number s
  unfolding other_number
  number_2 t = simp (sheet_letters_at s h WSH2, ← eg, t)

module _ (s : List ℕ) {number : ℕ} (en : number ≡ other_number s) where
  by : (t : Bool) → sheet_lettered WSH2 s ≡ t → number ≡ cond t 1 2
  unfolding other_number
  by t l = en ∙ rw l

  with_factors : number ≡ 1 → sheet_lettered WSH2 s ≡ true
  with_factors e = cases (sheet_lettered WSH2 s) refl
    where
      cases : (t : Bool) → sheet_lettered WSH2 s ≡ t → t ≡ true
      cases true l = refl
      cases false l = absurd (omega (arith, by false l))

  without : (number ≡ 1 → ⊥) → sheet_lettered WSH2 s ≡ false
  without n = cases (sheet_lettered WSH2 s) refl
    where
      cases : (t : Bool) → sheet_lettered WSH2 s ≡ t → t ≡ false
      cases true l = absurd (n (by true l))
      cases false l = refl

-- ---- a sheet that can be converted
module _ (s : List ℕ) (k : Convertible s) where
  pub fits : SheetPasses 1 64 s
  fits = sheet_passed 1 64 s k.0

  module _ {number : ℕ} (en : number ≡ other_number s) {c : ℕ} (ec : c ≡ sheet_columns s) where
    pub size_1 : number ≡ 1 → length s - c ≡ length (other_edition s)
    size_1 e = rw ec (sym (other_long s k.0 k.1 true (with_factors s en e)))

    pub size_2 : (number ≡ 1 → ⊥) → length s + c ≡ length (other_edition s)
    size_2 n = rw ec (sym (other_long s k.0 k.1 false (without s en n)))

-- ---- what follows the target
ones_count : (c : ℕ) → length (ones c) ≡ c
ones_count c = length-replicate c 1

module _ {number : ℕ} (c steps tolerance : ℕ) where
  pub ending_1 : number ≡ 1 → ending number c steps tolerance ≡ sheet_trailer WSH1 (2 * c) c steps tolerance
  unfolding ending
  ending_1 e = simp (eq-eqb number 1 e)

  pub ending_2 : (number ≡ 1 → ⊥) → ending number c steps tolerance ≡ ones c ++ sheet_trailer WSH2 (3 * c) c steps tolerance
  unfolding ending
  ending_2 n = simp (ne_eqb number 1 n)

  pub length_1 : number ≡ 1 → length (ending number c steps tolerance) ≡ 16
  length_1 e = ap length (ending_1 e) ∙ sheet_trailer_length WSH1 (2 * c) c steps tolerance refl

  pub length_2 : (number ≡ 1 → ⊥) → length (ending number c steps tolerance) ≡ c + 16
  length_2 n =
      ap length (ending_2 n) ∙ length-append (ones c) _
      ∙ omega (arith, ones_count c, sheet_trailer_length WSH2 (3 * c) c steps tolerance refl)

first_ones : (n m : ℕ) → n ≤ m → take n (ones m) ≡ ones n
first_ones zero m h = refl
first_ones (suc n) zero h = absurd (omega arith)
first_ones (suc n) (suc m) h = ap (λ l. 1 ∷ l) (first_ones n m (omega arith))

pub some_ones : (c : ℕ) → c ≤ 64 → take c (ones 64) ≡ ones c
some_ones c h = first_ones c 64 h

pub ones_long : (c : ℕ) → c ≤ 64 → c ≡ length (take c (ones 64))
ones_long c h = sym (ap length (some_ones c h) ∙ ones_count c)

module _ {number : ℕ} (out : List ℕ) (c steps tolerance : ℕ) (h : 2 * c + length (ending number c steps tolerance) ≤ length out) where
  pub ending_put : number ≡ 1 → {o : List ℕ} → o ≡ placed out (2 * c) (sheet_trailer WSH1 (2 * c) c steps tolerance) → o ≡ placed out (2 * c) (ending number c steps tolerance)
  ending_put e q = q ∙ rw (ending_1 {number = number} c steps tolerance e)

  module _ (n : number ≡ 1 → ⊥) (few : c ≤ 64) {o₁ : List ℕ} (e₁ : o₁ ≡ placed out (2 * c) (take c (ones 64))) where
    pub trailer_room : 3 * c + 16 ≤ length o₁
    trailer_room =
        omega (arith, ap length e₁, placed_length out (2 * c) (take c (ones 64)) (omega (arith, ones_long c few, length_2 {number = number} c steps tolerance n)), length_2 {number = number} c steps tolerance n)

    pub ones_put : {o₂ : List ℕ} → o₂ ≡ placed o₁ (3 * c) (sheet_trailer WSH2 (3 * c) c steps tolerance) → o₂ ≡ placed out (2 * c) (ending number c steps tolerance)
    ones_put e₂ =
        rw (ending_2 {number = number} c steps tolerance n)
        (placed_next out (2 * c) (ones c) (sheet_trailer WSH2 (3 * c) c steps tolerance) (3 * c) (rw (some_ones c few) at e₁) e₂ (omega (arith, ones_count c)) (omega (arith, ones_count c, length_2 {number = number} c steps tolerance n)))

-- ---- the end of a buffer, lent and given back
rest_of : (o : List ℕ) (f : ℕ) → take (length o - f) (drop f o) ≡ drop f o
rest_of o f = take_all (length o - f) (drop f o) (rw length-drop (omega arith))

part_placed : (o : List ℕ) (f a : ℕ) (bs : List ℕ) → f ≤ length o → {p : List ℕ} → p ≡ placed (drop f o) a bs → put_mid f (length o - f) o p ≡ placed o (f + a) bs
unfolding placed
part_placed o f a bs h e =
    let n : post_of f (length o - f) o ≡ [] = Post-is f (length o) o h ∙ drop-length o in
    rw (e, n, append-nil, take-add, append_assoc, drop-drop, add_assoc)

-- ---- front text, target and what follows
module _ (s : List ℕ) (k : Convertible s) (h : all_bytes s ≡ true) {number : ℕ} (en : number ≡ other_number s) {c front steps tolerance : ℕ} (ec : c ≡ sheet_columns s) (ef : front ≡ target_offset s)
    (es : steps ≡ (sheet s).steps) (et : tolerance ≡ (sheet s).tolerance) where
  abbrev kept : List ℕ
  kept = take (front + 2 * c) s

  end_inside : front + 2 * c ≤ length s
  end_inside = omega (arith, (fits s k).fits.whole)

  pub kept_long : front + 2 * c ≡ length (take (front + 2 * c) s)
  kept_long = sym (length-take-le (front + 2 * c) s end_inside)

  columns_are : length (sheet s).target ≡ sheet_columns s
  columns_are = (fits s k).fits.target_length

  target_size : length (values_bytes (sheet s).target) ≡ 2 * sheet_columns s
  target_size = length_values_bytes (sheet s).target ∙ ap (λ n. 2 * n) columns_are

  parts_by : (t : Bool) → sheet_lettered WSH2 s ≡ t → other_edition s ≡ kept ++ ending (cond t 1 2) c steps tolerance
  unfolding other_edition edition_bytes factored_bytes factored_body sheet_bytes ending
  parts_by true l = rw (ef, ec, es, et, l, front_and_target 1 64 s k.0 h, append_assoc, target_size, columns_are)
  parts_by false l =
      let size : length (values_bytes (sheet s).target ++ ones (sheet_columns s)) ≡ 3 * sheet_columns s =
      length-append (values_bytes (sheet s).target) (ones (sheet_columns s)) ∙ omega (arith, target_size, ones_count (sheet_columns s)) in
      rw (ef, ec, es, et, l, front_and_target 1 64 s k.0 h, plain s k.0 k.1, columns_are, size) (simp append_assoc)

  parts : other_edition s ≡ kept ++ ending number c steps tolerance
  parts = parts_by (sheet_lettered WSH2 s) refl ∙ rw (by s en (sheet_lettered WSH2 s) refl)

  module _ (out : List ℕ) (room : length (other_edition s) ≤ length out) where
    sizes : front + 2 * c + length (ending number c steps tolerance) ≡ length (other_edition s)
    sizes = sym (ap length parts ∙ length-append kept (ending number c steps tolerance) ∙ omega (arith, kept_long))

    pub kept_room : 0 + length (take (front + 2 * c) s) ≤ length out
    kept_room = omega (arith, kept_long, sizes)

    module _ {o₁ : List ℕ} (e₁ : o₁ ≡ placed out 0 (take (front + 2 * c) s)) where
      long : length o₁ ≡ length out
      long = ap length e₁ ∙ placed_length out 0 kept kept_room

      pub front_inside : front ≤ length o₁
      front_inside = omega (arith, long, sizes)

      pub ending_room : 2 * c + length (ending number c steps tolerance) ≤ length (take (length o₁ - front) (drop front o₁))
      ending_room = rw (rest_of o₁ front, length-drop) (omega (arith, long, sizes))

      pub all_put : {p : List ℕ} → p ≡ placed (take (length o₁ - front) (drop front o₁)) (2 * c) (ending number c steps tolerance) →
          put_mid front (length o₁ - front) o₁ p ≡ placed out 0 (other_edition s)
      all_put {p} e₂ =
          let q : put_mid front (length o₁ - front) o₁ p ≡ placed o₁ (front + 2 * c) (ending number c steps tolerance) =
          part_placed o₁ front (2 * c) (ending number c steps tolerance) front_inside (rw (rest_of o₁ front) at e₂) in
          rw parts (placed_next out 0 kept (ending number c steps tolerance) (front + 2 * c) e₁ q (omega (arith, kept_long)) kept_room)

-- ---- from the first byte on
pub placed_after : (out bs : List ℕ) → placed out 0 bs ≡ slots_after 0 bs out
unfolding placed slots_after
placed_after out bs = rw zero-add
