-- `sums::narrow_inner` meets its contract. The loop keeps `Summed`: the accumulator holds the sum over the first i columns, small enough for 32 bits, and the columns that are left add up to the rest.
-- A turn adds one product of known size.
-- It ends: the columns that are left fall by one.
use native.Mathlib.Omega.{arith}
use Rattle.sums.proofs.Sums.{sum_start, sum_end, sum_more, sum_fits, product_fits, narrow_product, narrow_cast_fits, narrow_cast_read, value_read}
use Rattle.sums.proofs.narrow_inner.Goals as goal

pub loop-i-init : goal.loop-i-init
loop-i-init c = sum_start

pub bounds-d-i : goal.bounds-d-i
bounds-d-i c = omega (arith, c.requires.bounded.0.long)

pub overflow_cast-sum : goal.overflow_cast-sum
overflow_cast-sum c = narrow_cast_fits c.requires.bounded.0 c.loop-i-test.true

pub overflow_mul-sum : goal.overflow_mul-sum
overflow_mul-sum c = product_fits tt c.loop-i.invariant c.requires.span c.requires.bounded.0.long c.loop-i-test.true c.value_at.ensures (narrow_cast_read c.requires.bounded.0 c.loop-i-test.true) (value_read _ c.value_at.ensures) (narrow_product c.requires.bounded.0 c.loop-i-test.true _ _ c.requires.bounded.1 c.value_at.ensures (narrow_cast_read c.requires.bounded.0 c.loop-i-test.true) (value_read _ c.value_at.ensures))

pub overflow_add-sum : goal.overflow_add-sum
overflow_add-sum c = sum_fits tt c.loop-i.invariant c.requires.span c.requires.bounded.0.long c.loop-i-test.true c.value_at.ensures (narrow_cast_read c.requires.bounded.0 c.loop-i-test.true) (value_read _ c.value_at.ensures) (narrow_product c.requires.bounded.0 c.loop-i-test.true _ _ c.requires.bounded.1 c.value_at.ensures (narrow_cast_read c.requires.bounded.0 c.loop-i-test.true) (value_read _ c.value_at.ensures))

pub loop-i-preserved : goal.loop-i-preserved
loop-i-preserved c = sum_more tt c.loop-i.invariant c.requires.span c.requires.bounded.0.long c.loop-i-test.true c.value_at.ensures (narrow_cast_read c.requires.bounded.0 c.loop-i-test.true) (value_read _ c.value_at.ensures) (narrow_product c.requires.bounded.0 c.loop-i-test.true _ _ c.requires.bounded.1 c.value_at.ensures (narrow_cast_read c.requires.bounded.0 c.loop-i-test.true) (value_read _ c.value_at.ensures))

pub returns : goal.returns
returns c = sum_end tt c.loop-i.invariant c.requires.span c.loop-i-test.false
