-- `test_buffers::put_bytes` meets its contract.
use borrow.Author.Rules.{rules}
use Rattle.test_buffers.proofs.Putting.{putting_start, slice_end, slice_more}
use Rattle.test_buffers.proofs.put_bytes.Goals as goal

pub loop-byte-init : goal.loop-byte-init
loop-byte-init c = putting_start

pub loop-byte-preserved : goal.loop-byte-preserved
loop-byte-preserved c = slice_more c.args.bytes.now c.loop-byte.byte-index c.loop-byte.invariant (search rules) c.put-next.ensures

pub returns : goal.returns
returns c = slice_end c.args.bytes.now c.loop-byte.byte-index c.loop-byte.invariant (search rules)
