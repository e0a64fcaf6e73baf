-- `lean_listing::cards_on` meets its contract. The loop keeps `Counted`: `count` of the first k cards rest on the boat, so all are `count` and those of the cards that are left.
-- A turn adds 1 where card k holds shares of the boat.
-- It ends: the cards that are left fall by one.
use Rattle.lean_listing.proofs.Counting.{Counted}
use Rattle.lean_listing.proofs.cards_on.Given as goal

abbrev pub invariant-loop-k : goal.invariant-loop-k
invariant-loop-k l = Counted l.slots l.start l.cards l.boat l.count l.k
