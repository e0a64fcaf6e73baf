-- `pairwise_moves::worked_over` meets its contract. The loop keeps `Working`: the moves that are left, made on the shares held, end where all moves on the first shares end; scores, list, memory and pair are those of the shares held.
-- A turn makes one move and scores again; where the amount is 0 the later moves would change nothing, and the function returns.
-- It ends: the moves that are left fall by one.
use Prim.Native.Nat.{◌-◌}
use Rattle.pairwise_moves.proofs.Working.{Working}
use Rattle.pairwise_moves.proofs.worked_over.Given as goal

abbrev pub invariant-loop-made : goal.invariant-loop-made
invariant-loop-made l = Working l.book l.sheet l.initial.held l.allowed l.list l.memory l.made l.held l.scores l.pair
