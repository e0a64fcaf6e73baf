-- What is promised of one book from two. Definitions only.
use Rattle.std.specs.Prelude.{◌≡◌, ◌↔◌, ◌⊎◌, List, [], ℕ, ◌+◌, ◌*◌, ◌≤◌, ◌<◌, length, take, get_or, ℤ}
use Rattle.frank_wolfe.specs.Vectors.{Among}
use Rattle.files.specs.Book.{boats, columns, rows, book_refusal}
use Rattle.method.specs.Problem.{Problem}
use Rattle.method.specs.Fractions.{Fraction}
use Rattle.merged_book.specs.declared.Merged.{Merged}
use Rattle.merged_book.specs.Merging.{merged_rows, merge_refusal}
use Rattle.merged_book.specs.Mixtures.{both_rows, MixturesOf, with_vertices, Reaches, Reachable}

-- of the bytes that were written
pub record MergedRight (a b out : List ℕ) : Type 0 where
  -- ---- The file: an accepted book of the merged rows, without front text
  pub accepted : book_refusal out ≡ 0
  pub columns_are : columns out ≡ columns a
  pub rows_are : rows out ≡ merged_rows a b
  pub boats_are : boats out ≡ length (rows out)
  pub no_front : length out ≡ 2 * (boats out * columns out) + 12
  -- ---- The rows
  -- the boats of the first book keep their numbers
  pub first_kept : (i : ℕ) → i < boats a → get_or (rows out) i [] ≡ get_or (rows a) i []
  -- a boat behind them has the row of no boat before it
  pub no_double : (i j : ℕ) → i < j → boats a ≤ j → j < boats out → get_or (rows out) i [] ≡ get_or (rows out) j [] → ⊥
  -- every row of either book is there, and no other
  pub either : (v : List ℤ) → Among (rows out) v ↔ (Among (rows a) v ⊎ Among (rows b) v)
  -- ---- The mixtures
  -- every mixture of the merged book is one drawn from both books, and the other way round: the same total, the same sum
  pub drawn : MixturesOf (columns a) (rows out) (both_rows a b)
  pub kept : MixturesOf (columns a) (both_rows a b) (rows out)
  -- so for any target and any factors they reach the same squared distances with the same totals
  pub reach : (p : Problem) → p.columns ≡ columns a → (q n : ℕ) →
      Reaches (with_vertices (rows out) p) q n ↔ Reaches (with_vertices (both_rows a b) p) q n
  -- and the same squared distances as fractions
  pub reach_distance : (p : Problem) → p.columns ≡ columns a → (x : Fraction) →
      Reachable (with_vertices (rows out) p) x ↔ Reachable (with_vertices (both_rows a b) p) x

-- of what is given back and the buffer that is left
pub record MergeRight (a b : List ℕ) (r : Merged) (output : List ℕ) : Type 0 where
  -- its number is that of the first test that fails, 0 where none does
  pub number : r.refusal ≡ merge_refusal a b (length output)
  -- a refusal has written no byte
  pub refused : 1 ≤ r.refusal → r.len ≡ 0
  -- a book that was written is in the first bytes, as many as are given back
  pub inside : r.len ≤ length output
  pub wrote : r.refusal ≡ 0 → MergedRight a b (take r.len output)
