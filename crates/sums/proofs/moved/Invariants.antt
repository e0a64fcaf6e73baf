-- `sums::moved` meets its contract. The loop keeps `Moving`: the first j entries are moved by k times the difference of row and target; the later ones are as they were.
-- A turn moves entry j.
-- It ends: the columns that are left fall by one.
use Prim.Native.Nat.{◌-◌}
use Rattle.sums.proofs.Moves.{Moving}
use Rattle.sums.proofs.moved.Given as goal

abbrev pub invariant-loop-j : goal.invariant-loop-j
invariant-loop-j l = Moving l.book l.at l.sheet l.from l.columns l.k l.initial.next l.j l.next
