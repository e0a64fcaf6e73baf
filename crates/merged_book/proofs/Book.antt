-- The rows of two accepted books of as many columns, where there are at most 256 of them, are those of an accepted book.
use mathlib.Core.Path.{◌≡◌, refl, sym, ap, ◌∙◌}
use mathlib.Core.Bool.{Bool, true, false, ◌&&◌}
use mathlib.Core.Logic.{◌⊎◌, inl, inr}
use mathlib.Core.List.{List, [], ◌∷◌}
use Prim.Native.Nat.{ℕ, suc, ◌≤◌, ◌<◌}
use native.Mathlib.Omega.{arith}
use lib.ListN.{length, get_or}
use lib.IntN.{ℤ}
use Rattle.frank_wolfe.specs.Vectors.{Among, here, there}
use Rattle.frank_wolfe.proofs.Vectors.{Wide}
use Rattle.files.specs.Bytes.{all_in_range}
use Rattle.files.specs.Book.{boats, columns, rows, all_rows_in_range, book_refusal}
use Rattle.files.specs.Fits.{BookFits}
use Rattle.files.proofs.Accepted.{book_accepted, row_in_range}
use Rattle.book_output.specs.Back.{RowsFit, BookOf, BookReadsBack}
use Rattle.book_output.proofs.Back.{book_reads_back}
use Rattle.merged_book.specs.Merging.{with_rows, merged_rows, merged_book}
use Rattle.merged_book.proofs.Rows.{place_of, among_at, rows_length, rows_either}

pub all_rows : (vs : List (List ℤ)) → ((v : List ℤ) → Among vs v → all_in_range v ≡ true) → all_rows_in_range vs ≡ true
unfolding all_rows_in_range
all_rows [] f = refl
all_rows (v ∷ vs) f = rw (f v here) (all_rows vs (λ w a. f w (there a)))

-- a row of an accepted book
module _ (b : List ℕ) (ok : book_refusal b ≡ 0) where
  pub book_wide : Wide (columns b) (rows b)
  book_wide =
      let f = book_accepted b ok in
      record { each = λ v a. let p = place_of a in rw p.is at (f.row_length p.index (omega (arith, p.inside, f.row_count))) }

  pub book_row : (v : List ℤ) → Among (rows b) v → all_in_range v ≡ true
  book_row v a = let p = place_of a in rw p.is at (row_in_range (rows b) (book_accepted b ok).rows_in_range p.index)

module _ (a b : List ℕ) (first : book_refusal a ≡ 0) (second : book_refusal b ≡ 0) (same : columns a ≡ columns b) where
  merged_some : boats a ≤ length (merged_rows a b)
  unfolding merged_rows
  merged_some = omega (arith, rows_length (rows a) (rows b), (book_accepted a first).row_count)

  pub merged_wide : Wide (columns a) (merged_rows a b)
  unfolding merged_rows
  merged_wide = record { each = λ v m. by v (rows_either (rows a) (rows b) m) }
    where
      by : (v : List ℤ) → Among (rows a) v ⊎ Among (rows b) v → length v ≡ columns a
      by v (inl m) = (book_wide a first).each v m
      by v (inr m) = (book_wide b second).each v m ∙ sym same

  pub merged_row : (v : List ℤ) → Among (merged_rows a b) v → all_in_range v ≡ true
  unfolding merged_rows
  merged_row v m = by (rows_either (rows a) (rows b) m)
    where
      by : Among (rows a) v ⊎ Among (rows b) v → all_in_range v ≡ true
      by (inl m) = book_row a first v m
      by (inr m) = book_row b second v m

  pub merged_fits : length (merged_rows a b) ≤ 256 → RowsFit (merged_rows a b) (columns a)
  merged_fits h =
      let f = book_accepted a first in
      record {
        some_boats = omega (arith, f.some_boats, merged_some);
        most_boats = h;
        some_columns = f.some_columns;
        most_columns = f.most_columns;
        row_length = λ i l. merged_wide.each (get_or (merged_rows a b) i []) (among_at (merged_rows a b) i l);
        in_range = all_rows (merged_rows a b) merged_row;
      }

  pub merged_of : length (merged_rows a b) ≤ 256 → BookOf (merged_rows a b) (columns a) (merged_book a b)
  unfolding BookReadsBack merged_book
  merged_of h = book_reads_back (merged_rows a b) (columns a) (merged_fits h)
