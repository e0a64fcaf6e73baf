-- `pairwise_moves::list_held` meets its contract. The loop keeps `Listing`: the boats before i that hold shares are in the first `count` slots, in order.
-- A turn adds boat i where it holds shares.
-- It ends: the boats that are left fall by one.
use Prim.Native.Nat.{◌-◌}
use Rattle.pairwise_moves.proofs.Listing.{Listing}
use Rattle.pairwise_moves.proofs.list_held.Given as goal

abbrev pub invariant-loop-i : goal.invariant-loop-i
invariant-loop-i l = Listing l.shares l.boats l.initial.list l.count l.i l.list
