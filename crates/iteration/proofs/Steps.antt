-- The needs of `products_of` and `least_product_of`, with the layout l of the files as the code has it. Assumes nothing.
use mathlib.Core.Path.{◌≡◌, sym, ap, ◌∙◌}
use mathlib.Core.List.{List, ◌++◌}
use Prim.Native.Nat.{ℕ, ◌+◌, ◌*◌, ◌-◌, ◌≤◌, ◌<◌}
use native.Mathlib.Omega.{arith}
use lib.IntN.{ℤ, pos}
use lib.ListN.{length, get_or, take, drop, replicate, length-append, length-replicate}
use lib.Seq.{take_at, drop_at, get_or-take}
use mir.Syntax.{w64}
use mir.Val.{Fits}
use Rattle.integers.proofs.Filling.{drop_replicate}
use Rattle.files.specs.Bytes.{values}
use Rattle.files.specs.Book.{boats, columns, rows, rows_from}
use Rattle.files.specs.Sheet.{sheet, files_refusal}
use Rattle.frank_wolfe.specs.Vectors.{subtract, inner, ones}
use Rattle.frank_wolfe.proofs.Vectors.{weighted_ones}
use Rattle.method.specs.Iterates as M
use Rattle.sums.specs.Operands.{Bounded, Multipliable, Padded, Span, Grid, RowsBounded}
use Rattle.sums.proofs.Blocks.{multipliable}
use Rattle.scoring.specs.Scores.{least_of}
use Rattle.scoring.specs.declared.Least.{Least}
use Rattle.iteration.specs.declared.Layout.{Layout}
use Rattle.iteration.specs.States.{file_layout, boat_difference, boat_products, target_product}
use Rattle.iteration.proofs.States.{book_fits, row_span, target_span, target_is, grid, differable, difference_front, difference_is, length_difference, rows_bounded, products_are, product_count, product_size}

module _ (b s : List ℕ) (ok : files_refusal b s ≡ 0) {l : Layout} (e : l ≡ file_layout b s) where
  -- ---- products_of and least_product_of

  module _ {i : ℕ} (h : i < boats b) where
    row_inside : l.rows + 2 * (i * l.columns) + 2 * l.columns ≤ length b
    unfolding file_layout
    row_inside = rw e (row_span b s ok i h).inside

    pub row_fits : length b < 18446744073709551616 → Fits w64 (l.rows + 2 * (i * l.columns))
    row_fits k = record { fits = omega (arith, row_inside) }

    pub cells_fit : length b < 18446744073709551616 → Fits w64 (2 * (i * l.columns))
    cells_fit k = record { fits = omega (arith, row_inside) }

    pub cell_fits : length b < 18446744073709551616 → Fits w64 (i * l.columns)
    cell_fits k = record { fits = omega (arith, row_inside) }

    pub difference_asks : Span b (l.rows + 2 * (i * l.columns)) l.columns × (Span s l.target l.columns
        × ((Bounded 2000 l.columns (values l.columns (drop (l.rows + 2 * (i * l.columns)) b)) × Bounded 2000 l.columns (values l.columns (drop l.target s))) × (l.columns ≤ 64)))
    unfolding file_layout
    difference_asks = rw e (row_span b s ok i h, (target_span b s ok, (differable b s ok i h, (book_fits b s ok).most_columns)))

    pub difference_right : {d : List ℤ} →
        d ≡ subtract (values l.columns (drop (l.rows + 2 * (i * l.columns)) b)) (values l.columns (drop l.target s)) ++ drop l.columns (replicate 64 (pos 0)) →
        d ≡ boat_difference b s i ++ replicate (64 - columns b) (pos 0)
    unfolding file_layout
    difference_right f = (rw e at f) ∙ rw (difference_is b s ok i h, drop_replicate (columns b) 64 (pos 0) (book_fits b s ok).most_columns)

    module _ {d : List ℤ} (ed : d ≡ boat_difference b s i ++ replicate (64 - columns b) (pos 0)) where
      front : take (columns b) d ≡ boat_difference b s i
      front = ap (take (columns b)) ed ∙ take_at (boat_difference b s i) (replicate (64 - columns b) (pos 0)) (columns b) (length_difference b s ok i h)

      long : length d ≡ 64
      long = rw (ed, length-append, length_difference b s ok i h, length-replicate) (omega (arith, (book_fits b s ok).most_columns))

      padded : Padded (columns b) d
      padded =
          record {
            entries = difference_front b s ok i h d long front;
            zeros = ap (drop (columns b)) ed ∙ drop_at (boat_difference b s i) (replicate (64 - columns b) (pos 0)) (columns b) (length_difference b s ok i h);
          }

      pub products_asks : Grid b l.rows l.boats l.columns × (Padded l.columns d × RowsBounded (rows_from l.boats l.columns (drop l.rows b)) l.columns)
      unfolding file_layout
      products_asks = rw e (grid b s ok, (padded, rows_bounded b s ok))

      products_right : M.scores (ones l.columns) (take l.columns d) (rows_from l.boats l.columns (drop l.rows b)) ≡ boat_products b s i
      unfolding file_layout
      products_right = rw e (products_are b s ok i d front)

      pub slots_right : (old : List ℤ) {new : List ℤ} → new ≡ M.scores (ones l.columns) (take l.columns d) (rows_from l.boats l.columns (drop l.rows b)) ++ drop l.boats old →
          new ≡ boat_products b s i ++ drop (boats b) old
      unfolding file_layout
      slots_right old f = f ∙ rw products_right (ap (λ (n : ℕ). boat_products b s i ++ drop n old) (ap (λ (x : Layout). x.boats) e))

      pub target_asks : Span s l.target l.columns × (Bounded 4000 l.columns d × Multipliable l.columns d (values l.columns (drop l.target s)))
      unfolding file_layout
      target_asks = rw e (target_span b s ok, (padded.entries, multipliable padded.entries (differable b s ok i h).1))

      pub target_right : {z : ℤ} → z ≡ inner (take l.columns d) (values l.columns (drop l.target s)) → z ≡ target_product b s i
      unfolding file_layout
      target_right f = (rw (e, front, target_is b s ok) at f) ∙ sym (weighted_ones (columns b) (boat_difference b s i) (sheet s).target (length_difference b s ok i h))

    -- the products in the first slots of a list
    module _ (old : List ℤ) {ps : List ℤ} (ep : ps ≡ boat_products b s i ++ drop (boats b) old) where
      front_products : take (boats b) ps ≡ boat_products b s i
      front_products = ap (take (boats b)) ep ∙ take_at (boat_products b s i) (drop (boats b) old) (boats b) (product_count b s ok i)

      pub product_there : {j : ℕ} → j < boats b → get_or ps j (pos 0) ≡ get_or (boat_products b s i) j (pos 0)
      product_there {j} k = sym (get_or-take (boats b) ps j (pos 0) k) ∙ ap (λ (z : List ℤ). get_or z j (pos 0)) front_products

      pub scan_asks : (1 ≤ l.boats) × Bounded 512000000 l.boats ps
      unfolding file_layout
      scan_asks =
          rw e (
            (book_fits b s ok).some_boats,
            record { long = rw (ep, length-append, product_count b s ok i) (omega arith); each = λ j k. rw (product_there k) (product_size b s ok i h j k) },
          )

      pub least_right : {x : Least} → x ≡ least_of (take l.boats ps) → x ≡ least_of (boat_products b s i)
      unfolding file_layout
      least_right f = f ∙ ap least_of (rw e front_products)

  pub slots_enough : {n : ℕ} → boats b ≤ n → l.boats ≤ n
  unfolding file_layout
  slots_enough h = rw e h
