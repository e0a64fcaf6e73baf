-- `sums::difference` meets its contract. The loop keeps `Differing`: the first i slots hold the row less the target; the later ones are as they were.
-- A turn stores one difference more.
-- It ends: the columns that are left fall by one.
use native.Mathlib.Omega.{arith}
use Rattle.sums.proofs.Differences.{differing_start, differing_long, differing_end, differing_more, wide_fits, narrow_fits}
use Rattle.sums.proofs.difference.Goals as goal

pub loop-i-init : goal.loop-i-init
loop-i-init c = differing_start

pub overflow_sub-to : goal.overflow_sub-to
overflow_sub-to c = wide_fits c.loop-i.invariant c.requires.columns_in_bounds c.requires.bounded.0 c.requires.bounded.1 c.loop-i-test.true c.value_at.ensures c.value_at-in-loop-i.ensures

pub overflow_cast-to : goal.overflow_cast-to
overflow_cast-to c = narrow_fits c.loop-i.invariant c.requires.columns_in_bounds c.requires.bounded.0 c.requires.bounded.1 c.loop-i-test.true c.value_at.ensures c.value_at-in-loop-i.ensures

pub bounds-to-i : goal.bounds-to-i
bounds-to-i c = omega (arith, c.loop-i-test.true, differing_long c.loop-i.invariant c.requires.columns_in_bounds, c.requires.columns_in_bounds)

pub loop-i-preserved : goal.loop-i-preserved
loop-i-preserved c = differing_more c.loop-i.invariant c.requires.columns_in_bounds c.requires.bounded.0 c.requires.bounded.1 c.loop-i-test.true c.value_at.ensures c.value_at-in-loop-i.ensures

pub shape_of-to : goal.shape_of-to
shape_of-to c = differing_long c.loop-i.invariant c.requires.columns_in_bounds

pub returns : goal.returns
returns c = differing_end c.loop-i.invariant c.loop-i-test.false
