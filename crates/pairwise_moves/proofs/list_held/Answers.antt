-- `pairwise_moves::list_held` meets its contract. The loop keeps `Listing`: the boats before i that hold shares are in the first `count` slots, in order.
-- A turn adds boat i where it holds shares.
-- It ends: the boats that are left fall by one.
use borrow.Author.Rules.{rules}
use native.Mathlib.Omega.{arith}
use lib.ListN.{length-set}
use Rattle.pairwise_moves.proofs.Listing.{listing_start, listing_place, listing_idle, listing_held, listing_end}
use Rattle.pairwise_moves.proofs.list_held.Goals.{then-shares-i-ne0, else-shares-i-ne0}
use Rattle.pairwise_moves.proofs.list_held.Goals as goal

pub loop-i-init : goal.loop-i-init
loop-i-init c = listing_start _ _ _ c.requires.1

pub bounds-shares-i : goal.bounds-shares-i
bounds-shares-i c = omega (arith, c.loop-i-test.true, c.requires.0)

pub offset_bounds-list-count : goal.offset_bounds-list-count
offset_bounds-list-count c = search (rules, listing_place c.loop-i.invariant)

pub bounds-list-count : goal.bounds-list-count
bounds-list-count c = listing_place c.loop-i.invariant

pub overflow_add-count : goal.overflow_add-count
overflow_add-count c = search (rules, listing_place c.loop-i.invariant)

pub loop-i-preserved : goal.loop-i-preserved
loop-i-preserved c =
    let g = c.loop-i.invariant in
    let h = c.loop-i-test.true in
    elim c.if-shares-i-ne0.branch [
      | then-shares-i-ne0 w ↦ rw (w.list-is, w.count-is) (listing_held g h)
      | else-shares-i-ne0 w ↦ rw (w.list-is, w.count-is) (listing_idle g h w.if-shares-i-ne0.false)
    ]

pub offset_bounds-list-count-2 : goal.offset_bounds-list-count-2
offset_bounds-list-count-2 c = search (rules, listing_place c.loop-i.invariant)

pub bounds-list-count-2 : goal.bounds-list-count-2
bounds-list-count-2 c = listing_place c.loop-i.invariant

pub shape_of-list : goal.shape_of-list
shape_of-list c = simp length-set c.loop-i.invariant.slots

pub returns : goal.returns
returns c = listing_end c.loop-i.invariant c.loop-i-test.false
