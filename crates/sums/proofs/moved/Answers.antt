-- `sums::moved` meets its contract. The loop keeps `Moving`: the first j entries are moved by k times the difference of row and target; the later ones are as they were.
-- A turn moves entry j.
-- It ends: the columns that are left fall by one.
use borrow.Author.Rules.{rules}
use native.Mathlib.Omega.{arith}
use Rattle.sums.proofs.Moves.{move_start, move_end, move_more, difference_fits, change_fits, entry_fits}
use Rattle.sums.proofs.moved.Goals as goal

pub loop-j-init : goal.loop-j-init
loop-j-init c = move_start (search rules)

pub overflow_sub-d : goal.overflow_sub-d
overflow_sub-d c = difference_fits c.loop-j.invariant c.requires.span.few_columns c.requires.movable c.loop-j-test.true c.value_at.ensures c.value_at-in-loop-j.ensures

pub overflow_mul-next : goal.overflow_mul-next
overflow_mul-next c = change_fits c.loop-j.invariant c.requires.span.few_columns c.requires.movable c.loop-j-test.true c.value_at.ensures c.value_at-in-loop-j.ensures

pub bounds-next-j : goal.bounds-next-j
bounds-next-j c = omega (arith, c.requires.span.few_columns)

pub overflow_add-next : goal.overflow_add-next
overflow_add-next c = entry_fits c.loop-j.invariant c.requires.span.few_columns c.requires.movable c.loop-j-test.true c.value_at.ensures c.value_at-in-loop-j.ensures

pub bounds-next-j-in-loop-j : goal.bounds-next-j-in-loop-j
bounds-next-j-in-loop-j c = omega (arith, c.requires.span.few_columns)

pub loop-j-preserved : goal.loop-j-preserved
loop-j-preserved c = move_more c.loop-j.invariant c.requires.span.few_columns c.requires.movable c.loop-j-test.true c.value_at.ensures c.value_at-in-loop-j.ensures

pub returns : goal.returns
returns c = move_end c.loop-j.invariant c.loop-j-test.false
