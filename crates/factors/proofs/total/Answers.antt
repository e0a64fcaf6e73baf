-- `factors::total` meets its contract: `Counted` is the loop's invariant.
use native.Mathlib.Omega.{arith}
use borrow.Author.Rules.{rules}
use Rattle.factors.proofs.Factors.{counted_start, counted_more, counted_end}
use Rattle.factors.proofs.total.Goals as goal

pub loop-factor-init : goal.loop-factor-init
loop-factor-init c = counted_start

pub overflow_cast-n : goal.overflow_cast-n
overflow_cast-n c = omega arith

pub overflow_add-n : goal.overflow_add-n
overflow_add-n c = omega (arith, c.loop-factor.invariant.few, c.loop-factor.invariant.within)

pub loop-factor-preserved : goal.loop-factor-preserved
loop-factor-preserved c = counted_more c.loop-factor.invariant (search rules) (omega arith)

pub returns : goal.returns
returns c = search (rules, counted_end)
