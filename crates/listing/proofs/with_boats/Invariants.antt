-- `listing::with_boats` meets its contract.
use borrow.Author.Rules.{rules}
use Rattle.listing.proofs.Listings.{BoatsAdded}
use Prim.Native.Nat.{◌-◌}
use Rattle.listing.proofs.with_boats.Given as goal

abbrev pub invariant-loop-i : goal.invariant-loop-i
invariant-loop-i l = BoatsAdded l.initial.longer l.shares l.boats l.longer l.i
