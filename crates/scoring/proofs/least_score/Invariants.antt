-- `scoring::least_score` meets its contract. The loop keeps `Passed`: row i starts at p, and the least score of the boats before i and its boat are known.
-- A turn makes the score of boat i and keeps it where it is below the least so far.
-- It ends: the boats that are left fall by one.
use lib.ListN.{take}
use Prim.Native.Nat.{◌-◌}
use Rattle.scoring.proofs.Passes.{Passed}
use Rattle.scoring.proofs.least_score.Given as goal

abbrev pub invariant-loop-i : goal.invariant-loop-i
invariant-loop-i l = Passed (take l.columns l.r) l.book l.at l.boats l.columns l.boat l.score l.p l.i
