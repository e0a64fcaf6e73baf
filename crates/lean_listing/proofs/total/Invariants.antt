-- `lean_listing::total` meets its contract.
use Rattle.leaning.specs.Slots.{parts}
use Rattle.lean_listing.proofs.Counting.{Totalled}
use Rattle.lean_listing.proofs.total.Given as goal

abbrev pub invariant-loop-i : goal.invariant-loop-i
invariant-loop-i l = Totalled (parts l.cards l.boats l.slots) l.boats l.sum l.i
