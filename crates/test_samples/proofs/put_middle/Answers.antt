-- `test_samples::put_middle` meets its contract.
use borrow.Author.Rules.{rules}
use native.Mathlib.Nat.{sub-zero}
use Rattle.test_buffers.proofs.Putting.{putting_start}
use Rattle.test_samples.proofs.Drawing.{middle_more, middle_end}
use Rattle.test_samples.proofs.put_middle.Goals as goal

pub loop-i-init : goal.loop-i-init
loop-i-init c = rw sub-zero putting_start

pub loop-i-preserved : goal.loop-i-preserved
loop-i-preserved c =
    let x = c.args in
    middle_more x.columns c.loop-i.i x.from.now x.a x.b c.loop-i.invariant (search rules)
    (rw (c.u16_at-in-loop-i.ensures.value, c.u16_at.ensures.value) at c.put_number-next.ensures)

pub returns : goal.returns
returns c =
    let x = c.args in
    middle_end x.columns c.loop-i.i x.from.now x.a x.b c.loop-i.invariant (search rules)
