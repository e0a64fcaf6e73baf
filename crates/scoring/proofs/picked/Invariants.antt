-- `scoring::picked` meets its contract. The loop keeps `Looking`: no boat before i both holds shares and has the least score, so the boats from i on decide the pick.
-- A turn looks at one boat: one that holds shares and has the least score is the pick, any other leaves the answer to those behind it.
-- It ends: the boats that are left fall by one.
use Prim.Native.Nat.{◌-◌}
use Rattle.scoring.proofs.Picking.{Looking}
use Rattle.scoring.proofs.picked.Given as goal

abbrev pub invariant-loop-i : goal.invariant-loop-i
invariant-loop-i l = Looking l.scores l.shares l.boats l.i
