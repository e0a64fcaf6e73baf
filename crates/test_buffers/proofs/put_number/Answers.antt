-- `test_buffers::put_number` meets its contract.
use borrow.Author.Rules.{rules}
use native.Mathlib.Nat.{sub-zero}
use Rattle.test_buffers.proofs.Putting.{putting_start, number_end, number_more}
use Rattle.test_buffers.proofs.put_number.Goals as goal

pub loop-i-init : goal.loop-i-init
loop-i-init c = rw sub-zero putting_start

pub loop-i-preserved : goal.loop-i-preserved
loop-i-preserved c =
    let count = c.args.count in
    number_more count c.loop-i.i c.loop-i.rest c.loop-i.invariant (search rules) c.put-next.ensures

pub returns : goal.returns
returns c = number_end c.args.count c.loop-i.i c.loop-i.rest c.loop-i.invariant (search rules)
