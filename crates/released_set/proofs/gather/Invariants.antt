-- `released_set::gather` meets its contract. The loop keeps `Gathering`: the shares of the boats before i that may be used are in the first `next` slots, the later slots are 0.
-- A turn takes the share of boat i where the boat may be used.
-- It ends: the boats that are left fall by one.
use Prim.Native.Nat.{◌-◌, ◌≤◌}
use Rattle.method.specs.ReleasedBoats.{usable}
use Rattle.released_set.proofs.Ranks.{Gathering}
use Rattle.released_set.proofs.gather.Given as goal

abbrev pub invariant-loop-i : goal.invariant-loop-i
invariant-loop-i l = (l.i ≤ l.boats) × Gathering l.shares (usable l.set) l.boats l.next l.i l.own
