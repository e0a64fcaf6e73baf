-- `scoring::rescored` meets its contract. The loop keeps `Rescored`: the first i scores are moved by k times their products, and the least of these and its boat are known.
-- A turn moves score i and keeps it where it is below the least so far.
-- It ends: the boats that are left fall by one.
use Prim.Native.Nat.{◌-◌}
use Rattle.scoring.proofs.Rescores.{Rescored}
use Rattle.scoring.proofs.rescored.Given as goal

abbrev pub invariant-loop-i : goal.invariant-loop-i
invariant-loop-i l = Rescored l.initial.scores l.k l.products l.boats l.boat l.least l.i l.scores
