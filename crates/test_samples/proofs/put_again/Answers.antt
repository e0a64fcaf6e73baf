-- `test_samples::put_again` meets its contract.
use borrow.Author.Rules.{rules}
use native.Mathlib.Nat.{sub-zero}
use Rattle.test_buffers.proofs.Putting.{putting_start}
use Rattle.test_samples.proofs.Drawing.{again_more, again_end}
use Rattle.test_samples.proofs.put_again.Goals as goal

pub loop-i-init : goal.loop-i-init
loop-i-init c = rw sub-zero putting_start

pub loop-i-preserved : goal.loop-i-preserved
loop-i-preserved c = again_more c.args.count c.loop-i.i c.loop-i.invariant (search rules) (rw (c.byte_at-x.ensures, c.less.ensures) at c.put-next.ensures)

pub returns : goal.returns
returns c = again_end c.args.count c.loop-i.i c.loop-i.invariant (search rules)
