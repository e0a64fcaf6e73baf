-- `pairwise_moves::remember_held` meets its contract. The loop keeps `Remembering`: each boat before i that holds shares has its products in the memory.
-- A turn stores the products of boat i where it holds shares; they stand behind those of the boats before it.
-- It ends: the boats that are left fall by one.
use Rattle.pairwise_moves.proofs.Remembering.{inside_boats, inside_shares, all_boats, remembering_start, remembering_end, remembering_idle, row_fits, row_bytes_fit, row_starts, row_part, remembering_held}
use Rattle.pairwise_moves.proofs.remember_held.Goals.{then-shares-i-ne0, else-shares-i-ne0}
use Rattle.pairwise_moves.proofs.remember_held.Goals as goal

pub loop-i-init : goal.loop-i-init
loop-i-init c = remembering_start _ _ c.requires.sheet_value c.requires.book_in_bounds_2

pub bounds-shares-i : goal.bounds-shares-i
bounds-shares-i c = inside_shares _ _ c.requires.layout_value c.args.shares.now c.requires.book_in_bounds c.loop-i-test.true

pub overflow_mul-at : goal.overflow_mul-at
overflow_mul-at c = row_fits _ _ c.requires.sheet_value c.requires.book_in_bounds_2 c.loop-i.invariant (inside_boats _ _ c.requires.layout_value c.loop-i-test.true) c.requires.layout_value

pub offset_bounds-memory-at : goal.offset_bounds-memory-at
offset_bounds-memory-at c = row_bytes_fit _ _ c.requires.sheet_value c.requires.book_in_bounds_2 c.loop-i.invariant (inside_boats _ _ c.requires.layout_value c.loop-i-test.true) c.requires.layout_value

pub slice_bounds-products_of-count : goal.slice_bounds-products_of-count
slice_bounds-products_of-count c = row_starts _ _ c.requires.sheet_value c.requires.book_in_bounds_2 c.loop-i.invariant (inside_boats _ _ c.requires.layout_value c.loop-i-test.true) c.requires.layout_value

pub slice_bounds-products_of-start : goal.slice_bounds-products_of-start
slice_bounds-products_of-start c = row_starts _ _ c.requires.sheet_value c.requires.book_in_bounds_2 c.loop-i.invariant (inside_boats _ _ c.requires.layout_value c.loop-i-test.true) c.requires.layout_value

pub products_of-requires : goal.products_of-requires
products_of-requires c =
    let h = inside_boats _ _ c.requires.layout_value c.loop-i-test.true in
    record { sheet_value = c.requires.sheet_value; layout_value = c.requires.layout_value; boat_bound = h; book_in_bounds = row_part _ _ c.requires.sheet_value c.requires.book_in_bounds_2 c.loop-i.invariant h c.requires.layout_value }

pub loop-i-preserved : goal.loop-i-preserved
loop-i-preserved c =
    let h = inside_boats _ _ c.requires.layout_value c.loop-i-test.true in
    let g = c.loop-i.invariant in
    elim c.if-shares-i-ne0.branch [
      | then-shares-i-ne0 w ↦ rw w.memory-is (remembering_held _ _ c.requires.sheet_value c.requires.book_in_bounds_2 g h c.requires.layout_value w.products_of.ensures.to_after)
      | else-shares-i-ne0 w ↦ rw w.memory-is (remembering_idle _ _ c.requires.sheet_value c.requires.book_in_bounds_2 g h w.if-shares-i-ne0.false)
    ]

pub shape_of-memory : goal.shape_of-memory
shape_of-memory c = c.loop-i.invariant.slots

pub returns : goal.returns
returns c = remembering_end _ _ c.requires.sheet_value c.requires.book_in_bounds_2 c.loop-i.invariant (all_boats _ _ c.requires.layout_value c.loop-i-test.false)
