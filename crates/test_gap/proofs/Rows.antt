-- The squared distances between the rows of an accepted fleet book, and the greatest of them, row by row from the last. Assumes nothing.
use mathlib.Core.Path.{◌≡◌, sym, ap, ◌∙◌}
use mathlib.Core.List.{List, [], ◌∷◌, ◌++◌}
use Prim.Native.Nat.{ℕ, zero, suc, ◌+◌, ◌*◌, ◌-◌, ◌≤◌, ◌<◌, max}
use native.Mathlib.Omega.{arith}
use native.Mathlib.Numerals.{add-one}
use lib.IntN.{ℤ, pos, nat_abs}
use lib.ListN.{length, get_or, take, drop, replicate, get_or-replicate, length-replicate}
use lib.Seq.{take_at, drop-cons, drop-length}
use Rattle.integers.proofs.Filling.{replicate_parts, drop_replicate}
use Rattle.files.specs.Bytes.{values}
use Rattle.files.specs.Book.{boats, columns, rows}
use Rattle.files.specs.Sheet.{files_refusal}
use Rattle.files.specs.Limits.{entry_limit}
use Rattle.frank_wolfe.specs.Vectors.{add, subtract, scale, squared_norm, weighted_norm, ones}
use Rattle.frank_wolfe.proofs.Vectors.{length_subtract, scale_one, norm_ones}
use Rattle.method.specs.Problem.{fixed}
use Rattle.method.proofs.Schedules.{fixed_sized}
use Rattle.method.specs.Plain.{plain_problem}
use Rattle.method.specs.Iterates.{row, farthest, row_diameter, diameter}
use Rattle.method.proofs.Argmin.{among_row}
use Rattle.method.proofs.Entries.{bounded_subtract}
use Rattle.method.proofs.Plain.{in_range}
use Rattle.sums.specs.Operands.{Bounded, Span, Movable}
use Rattle.iteration.specs.declared.Layout.{Layout}
use Rattle.iteration.specs.States.{file_layout}
use Rattle.iteration.proofs.States.{book_fits, row_span, row_is, differable, bounded_front, zeros_add}

module _ (b s : List ℕ) (ok : files_refusal b s ≡ 0) where
  abbrev zeros : List ℤ
  zeros = replicate 64 (pos 0)

  abbrev between : (i j : ℕ) → List ℤ
  between i j = subtract (row (rows b) i) (row (rows b) j)

  module _ {l : Layout} (e : l ≡ file_layout b s) {i j : ℕ} (h : i < boats b) (k : j < boats b) where
    zero_entry : (n : ℕ) → n < columns b → nat_abs (get_or zeros n (pos 0)) + 4000 * 1 ≤ entry_limit
    zero_entry n m = rw (get_or-replicate 64 n (pos 0) (pos 0) (omega (arith, (book_fits b s ok).most_columns))) (omega arith)

    pub moved_asks : Span b (l.rows + 2 * (i * l.columns)) l.columns × (Span b (l.rows + 2 * (j * l.columns)) l.columns
        × Movable zeros (values l.columns (drop (l.rows + 2 * (i * l.columns)) b)) (values l.columns (drop (l.rows + 2 * (j * l.columns)) b)) l.columns 1)
    unfolding file_layout
    moved_asks =
        rw e (
          row_span b s ok i h,
          (
            row_span b s ok j k,
            record { few_shares = omega arith; row_range = (differable b s ok i h).0; target_range = (differable b s ok j k).0; room = zero_entry },
          ),
        )

    length_between : length (between i j) ≡ columns b
    unfolding row
    length_between = length_subtract (row (rows b) i) (row (rows b) j) ((book_fits b s ok).row_length i h ∙ sym ((book_fits b s ok).row_length j k)) ∙ (book_fits b s ok).row_length i h

    module _ {d : List ℤ}
        (f : d ≡ add (take l.columns zeros) (scale 1 (subtract (values l.columns (drop (l.rows + 2 * (i * l.columns)) b)) (values l.columns (drop (l.rows + 2 * (j * l.columns)) b)))) ++ drop l.columns zeros) where
      first : add (take (columns b) zeros) (scale 1 (between i j)) ≡ between i j
      first =
          rw (replicate_parts (columns b) 64 (pos 0) (book_fits b s ok).most_columns, take_at (replicate (columns b) (pos 0)) (replicate (64 - columns b) (pos 0)) (columns b) (length-replicate (columns b) (pos 0)), scale_one (between i j))
          (zeros_add (columns b) (between i j) length_between)

      moved_is : d ≡ between i j ++ replicate (64 - columns b) (pos 0)
      unfolding file_layout
      moved_is = (rw e at f) ∙ rw (row_is b s ok i h, row_is b s ok j k, first, drop_replicate (columns b) 64 (pos 0) (book_fits b s ok).most_columns)

      front : take (columns b) d ≡ between i j
      front = ap (take (columns b)) moved_is ∙ take_at (between i j) (replicate (64 - columns b) (pos 0)) (columns b) length_between

      entries : (n : ℕ) → nat_abs (get_or (between i j) n (pos 0)) ≤ 4000
      unfolding plain_problem
      entries =
          let a : (i : ℕ) → i < boats b → _ = λ i h. (in_range b s ok fixed_sized).rows_bounded (row (rows b) i) (among_row (rows b) i (omega (arith, (book_fits b s ok).row_count))) in
          (bounded_subtract (a i h) (a j k)).each

      pub norm_asks : length d ≡ 64 → (l.columns ≤ 64) × Bounded entry_limit l.columns d
      unfolding file_layout
      norm_asks n = rw e ((book_fits b s ok).most_columns, bounded_front b s ok 4000 d (between i j) n front entries (omega arith))

      pub norm_is : {x : ℕ} → x ≡ squared_norm (take l.columns d) → x ≡ weighted_norm (ones (columns b)) (between i j)
      unfolding file_layout
      norm_is g = (rw e at g) ∙ ap squared_norm front ∙ sym (norm_ones (columns b) (between i j) length_between)

  -- ---- The greatest of them

  none_left : drop (boats b) (rows b) ≡ []
  none_left = rw (← (book_fits b s ok).row_count) (drop-length (rows b))

  row_first : (j : ℕ) → j < boats b → drop j (rows b) ≡ row (rows b) j ∷ drop (suc j) (rows b)
  unfolding row
  row_first j h = drop-cons (rows b) j [] (omega (arith, (book_fits b s ok).row_count))

  less_one : (j : ℕ) → suc j - 1 ≡ j
  less_one j = omega arith

  pub farthest_start : (i : ℕ) {n : ℕ} → n ≡ boats b → 0 ≡ farthest (ones (columns b)) (row (rows b) i) (drop n (rows b))
  unfolding farthest
  farthest_start i e = rw (e, none_left)

  pub farthest_more : (i j : ℕ) → 1 ≤ j → j ≤ boats b → {x most m : ℕ} → x ≡ weighted_norm (ones (columns b)) (between i (j - 1)) → most ≡ farthest (ones (columns b)) (row (rows b) i) (drop j (rows b)) →
      m ≡ max x most → m ≡ farthest (ones (columns b)) (row (rows b) i) (drop (j - 1) (rows b))
  unfolding farthest
  farthest_more i zero h k ex em e = absurd (omega arith)
  farthest_more i (suc j) h k ex em e = e ∙ rw (ex, em, less_one j, row_first j (omega arith))

  pub farthest_end : (i j : ℕ) {most : ℕ} → j ≡ i + 1 → most ≡ farthest (ones (columns b)) (row (rows b) i) (drop j (rows b)) → most ≡ farthest (ones (columns b)) (row (rows b) i) (drop (i + 1) (rows b))
  farthest_end i j e f = rw e at f

  pub diameter_start : {n : ℕ} → n ≡ boats b → 0 ≡ row_diameter (ones (columns b)) (drop n (rows b))
  unfolding row_diameter
  diameter_start e = rw (e, none_left)

  pub diameter_more : (i : ℕ) → 1 ≤ i → i ≤ boats b → {x most m : ℕ} → x ≡ farthest (ones (columns b)) (row (rows b) (i - 1)) (drop (i - 1 + 1) (rows b)) → most ≡ row_diameter (ones (columns b)) (drop i (rows b)) →
      m ≡ max x most → m ≡ row_diameter (ones (columns b)) (drop (i - 1) (rows b))
  unfolding row_diameter
  diameter_more zero h k ex em e = absurd (omega arith)
  diameter_more (suc i) h k ex em e = e ∙ rw (ex, em, less_one i, add-one, row_first i (omega arith))

  pub diameter_end : (i : ℕ) {most : ℕ} → i ≡ 0 → most ≡ row_diameter (ones (columns b)) (drop i (rows b)) → most ≡ diameter (plain_problem fixed b s)
  unfolding plain_problem
  diameter_end i e f = rw e at f

pub boats_are : (b s : List ℕ) {l : Layout} → l ≡ file_layout b s → l.boats ≡ boats b
unfolding file_layout
boats_are b s e = ap (λ (x : Layout). x.boats) e
