-- A row looked for among rows that stand one after the other.
use mathlib.Core.Path.{◌≡◌, refl, sym, ◌∙◌}
use mathlib.Core.Bool.{Bool, true, false, ◌||◌}
use mathlib.Core.List.{List}
use Prim.Native.Nat.{ℕ, zero, suc, ◌+◌, ◌*◌, ◌-◌, ◌≤◌, ◌<◌}
use native.Mathlib.Nat.{suc-mul}
use native.Mathlib.Omega.{arith}
use lib.ListN.{length, take, drop, length-drop}
use lib.Seq.{drop-drop, length-take-le}
use lib.IntN.{ℤ}
use Rattle.files.specs.Bytes.{values, same}
use Rattle.files.specs.Book.{rows_from}
use Rattle.files.proofs.Rows.{values_take_some}
use Rattle.merged_book.specs.Merging.{same_row, is_among}
use Rattle.derived_files.proofs.Bytes.{Bytes, bytes_drop, bytes_take}
use Rattle.merge_books.proofs.Bytes.{same_bytes}

-- after i rows that are other rows, those from `at` on decide
pub record Looking (rows : List ℕ) (count c : ℕ) (v : List ℤ) (i at : ℕ) : Type 0 where
  pub left : ℕ
  pub counted : i + left ≡ count
  pub ends : at + 2 * (left * c) ≡ 2 * (count * c)
  pub decides : is_among (rows_from count c rows) v ≡ is_among (rows_from left c (drop at rows)) v

pub looking_start : {rows : List ℕ} {count c : ℕ} {v : List ℤ} → Looking rows count c v 0 0
looking_start {count = count} = record { left = count; counted = omega arith; ends = omega arith; decides = refl }

module _ {rows : List ℕ} {count c : ℕ} {v : List ℤ} {i at : ℕ} (d : Looking rows count c v i at) where
  -- how many rows are left behind the next one
  next : i < count → (k : ℕ) × (d.left ≡ suc k)
  next h = by d.left refl
    where
      by : (n : ℕ) → d.left ≡ n → (k : ℕ) × (d.left ≡ suc k)
      by zero e = absurd (omega (arith, d.counted))
      by (suc k) e = (k, e)

  pub looking_inside : i < count → at + 2 * c ≤ 2 * (count * c)
  looking_inside h =
      let n = next h in
      omega (arith, (rw n.1 at d.ends), suc-mul n.0 c)

  first : (k : ℕ) → d.left ≡ suc k → is_among (rows_from count c rows) v ≡ same_row (values c (drop at rows)) v || is_among (rows_from k c (drop (at + 2 * c) rows)) v
  unfolding is_among rows_from
  first k e = d.decides ∙ rw (e, drop-drop (2 * c) at rows)

  pub looking_found : i < count → same_row (values c (drop at rows)) v ≡ true → true ≡ is_among (rows_from count c rows) v
  looking_found h e = let n = next h in sym (first n.0 n.1 ∙ rw e)

  pub looking_more : i < count → same_row (values c (drop at rows)) v ≡ false → {end : ℕ} → end ≡ at + 2 * c → Looking rows count c v (i + 1) end
  looking_more h e f =
      let n = next h in
      record {
        left = n.0;
        counted = omega (arith, d.counted, n.1);
        ends = omega (arith, (rw n.1 at d.ends), suc-mul n.0 c);
        decides = first n.0 n.1 ∙ rw (e, f);
      }

  pub looking_end : count ≤ i → false ≡ is_among (rows_from count c rows) v
  unfolding is_among rows_from
  looking_end h = let z : d.left ≡ 0 = omega (arith, d.counted) in sym (d.decides ∙ rw z)

-- the bytes of a row compared are the rows compared
pub row_compared : (rows row : List ℕ) (c at : ℕ) {end : ℕ} → Bytes rows → Bytes row → length row ≡ 2 * c → at + 2 * c ≤ length rows → end ≡ at + 2 * c →
    {t : Bool} → t ≡ same (take (end - at) (drop at rows)) row → same_row (values c (drop at rows)) (values c row) ≡ t
row_compared rows row c at f g h k e q =
    let m : at + 2 * c - at ≡ 2 * c = omega arith in
    let l : length (take (2 * c) (drop at rows)) ≡ 2 * c = length-take-le (2 * c) (drop at rows) (rw length-drop (omega arith)) in
    sym (
    q ∙ rw (e, m, same_bytes c (take (2 * c) (drop at rows)) row (bytes_take (2 * c) (drop at rows) (bytes_drop at rows f)) g l h, values_take_some c (2 * c) (drop at rows) (omega arith))
    )
