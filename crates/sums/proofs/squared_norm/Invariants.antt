-- `sums::squared_norm` meets its contract. The loop keeps `Squared`: the squares of the first i numbers are in the sum, and those that are left complete it.
-- A turn adds the square of number i, which is bounded, so that the sum keeps to 64 bits.
-- It ends: the numbers that are left fall by one.
use Prim.Native.Nat.{◌-◌}
use Rattle.sums.proofs.Squares.{Squared}
use Rattle.sums.proofs.squared_norm.Given as goal

abbrev pub invariant-loop-i : goal.invariant-loop-i
invariant-loop-i l = Squared l.r l.columns l.i l.sum
