-- A row put behind others where it equals none of them.
use mathlib.Core.Path.{◌≡◌, sym, ap, ◌∙◌}
use mathlib.Core.Bool.{true, false}
use mathlib.Core.List.{List, [], ◌∷◌}
use Prim.Native.Nat.{ℕ, ◌+◌}
use native.Mathlib.Omega.{arith}
use lib.ListN.{length, length-append}
use lib.IntN.{ℤ}
use Rattle.files.specs.Bytes.{values}
use Rattle.files.specs.Book.{rows_from}
use Rattle.files.proofs.Rows.{length_rows_from}
use Rattle.buffers.specs.Placed.{placed}
use Rattle.buffers.proofs.Placing.{placed_nil}
use Rattle.merged_book.specs.Merging.{is_among, with_row}
use Rattle.merged_book.proofs.Rows.{known_row, new_row}
use Rattle.merge_books.specs.Putting.{new_bytes}

module _ (vs : List (List ℤ)) (c : ℕ) (row : List ℕ) where
  pub no_bytes : is_among vs (values c row) ≡ true → new_bytes vs c row ≡ []
  unfolding new_bytes
  no_bytes e = rw e

  pub all_bytes : is_among vs (values c row) ≡ false → new_bytes vs c row ≡ row
  unfolding new_bytes
  all_bytes e = rw e

module _ (rows row : List ℕ) (n c at : ℕ) where
  pub put_known : true ≡ is_among (rows_from n c rows) (values c row) →
      (n ≡ length (with_row (rows_from n c rows) (values c row))) × (rows ≡ placed rows at (new_bytes (rows_from n c rows) c row))
  put_known e =
      let vs = rows_from n c rows in (
        sym (length_rows_from n c rows) ∙ sym (ap length (known_row vs (values c row) (sym e))),
        sym (placed_nil rows at) ∙ sym (ap (placed rows at) (no_bytes vs c row (sym e))),
      )

  pub put_fresh : false ≡ is_among (rows_from n c rows) (values c row) → {now : List ℕ} → now ≡ placed rows at row →
      (n + 1 ≡ length (with_row (rows_from n c rows) (values c row))) × (now ≡ placed rows at (new_bytes (rows_from n c rows) c row))
  put_fresh e f =
      let vs = rows_from n c rows in
      let v = values c row in (
        omega (arith, length_rows_from n c rows, length-append vs (v ∷ []), ap length (new_row vs v (sym e))),
        f ∙ sym (ap (placed rows at) (all_bytes vs c row (sym e))),
      )
