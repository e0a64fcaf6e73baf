-- `pairwise_moves::rescored` meets its contract. The loop keeps `Walking`: boat i is in slot j of the list, the boats before it are passed,
-- their scores moved where they hold shares, and the greatest and the least of these are known with their boats.
-- A turn passes boat i and the boats up to the next of the list, which hold none. It ends: the boats that are left fall.
use Prim.Native.Nat.{◌-◌}
use Rattle.pairwise_moves.proofs.Rescoring.{Walking}
use Rattle.pairwise_moves.proofs.rescored.Given as goal

abbrev pub invariant-loop-i : goal.invariant-loop-i
invariant-loop-i l = Walking l.initial.scores l.shares l.list l.boats l.m l.memory l.takes l.gives l.scores l.most l.least l.j l.i

abbrev pub decreases-loop-i : goal.decreases-loop-i
decreases-loop-i l = l.boats - l.i
