-- `released_card::rests` meets its contract. The loop keeps `Resting`: the boats from i on decide as all do, since each boat before i may be used or holds none.
-- A turn tests boat i; where it fails the answer is no.
-- It ends: the boats that are left fall by one.
use Prim.Native.Nat.{◌≤◌}
use lib.ListN.{take}
use Rattle.method.specs.ReleasedBoats.{usable}
use Rattle.released_card.proofs.Resting.{Resting}
use Rattle.released_card.proofs.rests.Given as goal

abbrev pub invariant-loop-i : goal.invariant-loop-i
invariant-loop-i l = (l.i ≤ l.boats) × Resting (usable l.released) (take l.boats l.shares) l.i
