-- `sums::inner_at` meets its contract. The loop keeps `Summed`: the accumulator holds the sum over the first i columns, small enough for 64 bits, and the columns that are left add up to the rest.
-- A turn adds one product of known size.
-- It ends: the columns that are left fall by one.
use Prim.Native.Nat.{◌-◌}
use mir.Syntax.{w64}
use Rattle.sums.proofs.Sums.{Summed}
use Rattle.sums.proofs.inner_at.Given as goal

abbrev pub invariant-loop-i : goal.invariant-loop-i
invariant-loop-i l = Summed w64 8519680000000 l.r l.bytes l.at l.columns l.i l.sum
