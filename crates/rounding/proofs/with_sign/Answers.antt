-- `rounding::with_sign` meets its contract.
use borrow.Author.Rules.{rules}
use Rattle.rounding.proofs.Signs.{size_kept, minus_fits, minus_kept}
use Rattle.rounding.proofs.with_sign.Goals as goal

-- src/lib.rt:33:16
pub overflow_sub-result : goal.overflow_sub-result
overflow_sub-result c = minus_fits c.args.size c.requires

-- src/lib.rt:33:9
pub returns-then-negative : goal.returns-then-negative
returns-then-negative c = rw c.if-negative.true (minus_kept c.args.size c.requires)

-- src/lib.rt:28:1
pub returns : goal.returns
returns c = rw c.if-negative.false (size_kept c.args.size c.requires)
