-- `sums::inner_at` meets its contract. The loop keeps `Summed`: the accumulator holds the sum over the first i columns, small enough for 64 bits, and the columns that are left add up to the rest.
-- A turn adds one product of known size.
-- It ends: the columns that are left fall by one.
use borrow.Author.Rules.{rules}
use native.Mathlib.Omega.{arith}
use Rattle.sums.proofs.Sums.{sum_start, sum_end, sum_more, sum_fits, product_fits, wide_product, entry_cast_fits, entry_cast_read, value_cast_fits, value_cast_read}
use Rattle.sums.proofs.inner_at.Goals as goal

pub loop-i-init : goal.loop-i-init
loop-i-init c = sum_start

pub bounds-r-i : goal.bounds-r-i
bounds-r-i c = omega (arith, c.requires.span.few_columns)

pub overflow_cast-sum : goal.overflow_cast-sum
overflow_cast-sum c = search (rules, entry_cast_fits)

pub overflow_cast-sum-in-loop-i : goal.overflow_cast-sum-in-loop-i
overflow_cast-sum-in-loop-i c = search (rules, value_cast_fits)

pub overflow_mul-sum : goal.overflow_mul-sum
overflow_mul-sum c = product_fits tt c.loop-i.invariant c.requires.span c.requires.bounded.long c.loop-i-test.true c.value_at.ensures (entry_cast_read c.requires.bounded c.loop-i-test.true) (value_cast_read _ c.value_at.ensures) (wide_product c.requires.bounded c.loop-i-test.true _ c.value_at.ensures (entry_cast_read c.requires.bounded c.loop-i-test.true) (value_cast_read _ c.value_at.ensures))

pub overflow_add-sum : goal.overflow_add-sum
overflow_add-sum c = sum_fits tt c.loop-i.invariant c.requires.span c.requires.bounded.long c.loop-i-test.true c.value_at.ensures (entry_cast_read c.requires.bounded c.loop-i-test.true) (value_cast_read _ c.value_at.ensures) (wide_product c.requires.bounded c.loop-i-test.true _ c.value_at.ensures (entry_cast_read c.requires.bounded c.loop-i-test.true) (value_cast_read _ c.value_at.ensures))

pub loop-i-preserved : goal.loop-i-preserved
loop-i-preserved c = sum_more tt c.loop-i.invariant c.requires.span c.requires.bounded.long c.loop-i-test.true c.value_at.ensures (entry_cast_read c.requires.bounded c.loop-i-test.true) (value_cast_read _ c.value_at.ensures) (wide_product c.requires.bounded c.loop-i-test.true _ c.value_at.ensures (entry_cast_read c.requires.bounded c.loop-i-test.true) (value_cast_read _ c.value_at.ensures))

pub returns : goal.returns
returns c = sum_end tt c.loop-i.invariant c.requires.span c.loop-i-test.false
