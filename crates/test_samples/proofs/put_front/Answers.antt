-- `test_samples::put_front` meets its contract.
use mathlib.Core.Path.{refl}
use borrow.Author.Rules.{rules}
use native.Mathlib.Nat.{sub-zero}
use Rattle.test_buffers.proofs.Putting.{putting_start}
use Rattle.test_samples.proofs.Drawing.{any_more, any_end, advances_more, advances_end}
use Rattle.test_samples.proofs.put_front.Goals as goal

pub loop-i-init : goal.loop-i-init
loop-i-init c = rw sub-zero (putting_start, refl)

pub loop-i-preserved : goal.loop-i-preserved
loop-i-preserved c =
    let count = c.args.count in
    rw
    c.draw-x.ensures.seed_after
    (any_more count c.loop-i.i c.loop-i.seed c.loop-i.invariant.0 (search rules) (rw c.draw-x.ensures.value at c.put-next.ensures), advances_more count c.loop-i.i c.loop-i.seed c.loop-i.invariant.1 (search rules))

pub returns : goal.returns
returns c =
    let x = c.loop-i in
    let count = c.args.count in
    record { puts = any_end count x.i x.seed x.invariant.0 (search rules); seed_after = advances_end count x.i x.seed x.invariant.1 (search rules) }
