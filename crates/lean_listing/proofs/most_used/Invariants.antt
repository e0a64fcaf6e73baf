-- `lean_listing::most_used` meets its contract.
use lib.ListN.{drop}
use Rattle.leaning.specs.Slots.{parts}
use Rattle.lean_listing.proofs.Counting.{Led}
use Rattle.lean_listing.proofs.most_used.Given as goal

abbrev pub invariant-loop-i : goal.invariant-loop-i
invariant-loop-i l = Led (parts 12 l.boats (drop l.start l.slots)) l.boats l.best l.greatest l.i
