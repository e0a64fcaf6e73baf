-- `sums::narrow_inner` meets its contract. The loop keeps `Summed`: the accumulator holds the sum over the first i columns, small enough for 32 bits, and the columns that are left add up to the rest.
-- A turn adds one product of known size.
-- It ends: the columns that are left fall by one.
use Prim.Native.Nat.{◌-◌}
use mir.Syntax.{w32}
use Rattle.sums.proofs.Sums.{Summed}
use Rattle.sums.proofs.narrow_inner.Given as goal

abbrev pub invariant-loop-i : goal.invariant-loop-i
invariant-loop-i l = Summed w32 8000000 l.d l.bytes l.at l.columns l.i l.sum
