-- `pairwise_moves::put_scores` meets its contract. The loop keeps `Stored`: the scores of the first i rows are in the first i slots, and `row` is where row i starts.
-- A turn stores the score of row i.
-- It ends: the boats that are left fall by one.
use Prim.Native.Nat.{◌-◌}
use lib.ListN.{take}
use Rattle.scoring.proofs.Passes.{Stored}
use Rattle.pairwise_moves.proofs.put_scores.Given as goal

abbrev pub invariant-loop-i : goal.invariant-loop-i
invariant-loop-i l = Stored (take l.columns l.r) l.book l.at l.boats l.columns l.initial.to l.to l.row l.i
