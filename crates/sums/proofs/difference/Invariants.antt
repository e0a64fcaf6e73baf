-- `sums::difference` meets its contract. The loop keeps `Differing`: the first i slots hold the row less the target; the later ones are as they were.
-- A turn stores one difference more.
-- It ends: the columns that are left fall by one.
use Prim.Native.Nat.{◌-◌}
use Rattle.sums.proofs.Differences.{Differing}
use Rattle.sums.proofs.difference.Given as goal

abbrev pub invariant-loop-i : goal.invariant-loop-i
invariant-loop-i l = Differing l.book l.at l.sheet l.from l.columns l.initial.to l.i l.to
