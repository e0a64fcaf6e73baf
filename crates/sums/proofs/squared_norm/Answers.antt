-- `sums::squared_norm` meets its contract. The loop keeps `Squared`: the squares of the first i numbers are in the sum, and those that are left complete it.
-- A turn adds the square of number i, which is bounded, so that the sum keeps to 64 bits.
-- It ends: the numbers that are left fall by one.
use native.Mathlib.Omega.{arith}
use Rattle.sums.proofs.Squares.{squared_start, squared_end, squared_fits, squared_more, entry_size}
use Rattle.sums.proofs.squared_norm.Goals as goal

pub loop-i-init : goal.loop-i-init
loop-i-init c = squared_start

pub bounds-r-i : goal.bounds-r-i
bounds-r-i c = omega (arith, c.requires.bounded.long)

pub square-sum-requires : goal.square-sum-requires
square-sum-requires c = entry_size c.requires.bounded _ c.loop-i-test.true

pub overflow_add-sum : goal.overflow_add-sum
overflow_add-sum c = squared_fits c.loop-i.invariant c.requires.columns_bound c.requires.bounded c.loop-i-test.true c.square-sum.ensures

pub loop-i-preserved : goal.loop-i-preserved
loop-i-preserved c = squared_more c.loop-i.invariant c.requires.columns_bound c.requires.bounded c.loop-i-test.true c.square-sum.ensures

pub returns : goal.returns
returns c = squared_end c.loop-i.invariant c.loop-i-test.false
