-- `pairwise_moves::remember_held` meets its contract. The loop keeps `Remembering`: each boat before i that holds shares has its products in the memory.
-- A turn stores the products of boat i where it holds shares; they stand behind those of the boats before it.
-- It ends: the boats that are left fall by one.
use Prim.Native.Nat.{◌-◌}
use Rattle.pairwise_moves.proofs.Remembering.{Remembering}
use Rattle.pairwise_moves.proofs.remember_held.Given as goal

abbrev pub invariant-loop-i : goal.invariant-loop-i
invariant-loop-i l = Remembering l.book l.sheet l.shares l.initial.memory l.memory l.i
