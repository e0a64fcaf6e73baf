-- `lean_listing::with_boats` meets its contract.
use Rattle.leaning.specs.Slots.{parts}
use Rattle.lean_listing.proofs.Adding.{BoatsAdded}
use Rattle.lean_listing.proofs.with_boats.Given as goal

abbrev pub invariant-loop-i : goal.invariant-loop-i
invariant-loop-i l = BoatsAdded l.initial.longer (parts l.cards l.boats l.slots) l.boats l.longer l.i
