-- `lean_listing::with_stretches` meets its contract. The loop keeps `StretchesAdded`: the text has the lines of the first i stretches, and those that are left complete it.
-- A turn adds the line of stretch i, of at most 15 bytes.
use Rattle.lean_listing.proofs.Adding.{StretchesAdded}
use Rattle.lean_listing.proofs.with_stretches.Given as goal

abbrev pub invariant-loop-i : goal.invariant-loop-i
invariant-loop-i l = StretchesAdded l.initial.longer l.slots l.cards l.boats l.longer l.i
