-- `lean_listing::cards_on` meets its contract. The loop keeps `Counted`: `count` of the first k cards rest on the boat, so all are `count` and those of the cards that are left.
-- A turn adds 1 where card k holds shares of the boat.
-- It ends: the cards that are left fall by one.
use Rattle.lean_listing.proofs.Counting.{counted_start, counted_more, counted_end}
use borrow.Author.Rules.{rules}
use Rattle.lean_listing.proofs.cards_on.Goals as goal

pub loop-k-init : goal.loop-k-init
loop-k-init c = counted_start c.requires

pub loop-k-preserved : goal.loop-k-preserved
loop-k-preserved c = search (rules, counted_more)

pub returns : goal.returns
returns c =
    let q = counted_end c.loop-k.invariant (search rules) in
    record { by_index = q.0; upper_bound = q.1 }
