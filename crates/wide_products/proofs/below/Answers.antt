-- `wide_products::below` meets its contract.
use native.Mathlib.Omega.{arith}
use Rattle.wide_products.specs.Value.{value}
use Rattle.wide_products.proofs.Digits.{same_high, other_high}
use Rattle.wide_products.proofs.below.Goals as goal

pub returns-then-a-b : goal.returns-then-a-b
unfolding value
returns-then-a-b c = same_high c.args.a.hi c.args.a.lo c.args.b.hi c.args.b.lo c.if-a-b.true

pub returns-else-a-b : goal.returns-else-a-b
unfolding value
returns-else-a-b c =
    other_high c.args.a.hi c.args.a.lo c.args.b.hi c.args.b.lo c.if-a-b.false (omega arith)
    (omega arith)
