-- `csv_slots::width_in` meets its contract. The loop keeps `Narrowing`: the fields from n on are empty, so those below n decide.
-- A turn looks at field n - 1.
use native.Mathlib.Omega.{arith}
use Rattle.csv_slots.proofs.Holding.{narrowing_start, narrowing_here, narrowing_more, narrowing_end}
use Rattle.csv_slots.proofs.width_in.Goals as goal

pub loop-n-init : goal.loop-n-init
loop-n-init c = (omega arith, λ first rows csv cells held h. narrowing_start _ csv)

pub returns-then-sizes-start-ne0 : goal.returns-then-sizes-start-ne0
returns-then-sizes-start-ne0 c =
    let inv = c.loop-n.invariant in
    λ first rows csv cells held h. narrowing_here (inv.1 first rows csv cells held h) (λ e. omega (arith, e, c.loop-n-test.true)) (held.size _ _ h (omega (arith, inv.0))) c.if-sizes-start-ne0.true

pub loop-n-preserved : goal.loop-n-preserved
loop-n-preserved c =
    let inv = c.loop-n.invariant in (
      omega (arith, inv.0),
      λ first rows csv cells held h. narrowing_more (inv.1 first rows csv cells held h) (λ e. omega (arith, e, c.loop-n-test.true)) (held.size _ _ h (omega (arith, inv.0))) c.if-sizes-start-ne0.false,
    )

pub returns : goal.returns
returns c = λ first rows csv cells held h. narrowing_end (c.loop-n.invariant.1 first rows csv cells held h) (omega (arith, c.loop-n-test.false))
