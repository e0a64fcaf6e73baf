-- `released_set::scatter` meets its contract. The loop keeps `Scattering`: the first i slots are given out, and `next` of the boats before i may be used.
-- A turn gives slot i the next share where the boat may be used, else 0.
-- It ends: the boats that are left fall by one.
use Prim.Native.Nat.{◌-◌, ◌≤◌}
use Rattle.method.specs.ReleasedBoats.{usable}
use Rattle.released_set.proofs.Ranks.{Scattering}
use Rattle.released_set.proofs.scatter.Given as goal

abbrev pub invariant-loop-i : goal.invariant-loop-i
invariant-loop-i l = (l.i ≤ l.boats) × Scattering l.own (usable l.set) l.boats l.initial.slots l.next l.i l.slots
