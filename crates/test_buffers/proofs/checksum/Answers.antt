-- `test_buffers::checksum` meets its contract.
use borrow.Author.Rules.{rules}
use native.Mathlib.Omega.{arith}
use Rattle.test_buffers.proofs.Sums.{sum_more, sum_end}
use Rattle.test_buffers.proofs.checksum.Goals as goal

pub loop-byte-preserved : goal.loop-byte-preserved
loop-byte-preserved c = (omega arith, sum_more c.args.bytes.now c.loop-byte.byte-index c.loop-byte.sum c.loop-byte.invariant.1 (search rules) c.wide.ensures.value)

pub returns : goal.returns
returns c = sum_end c.args.bytes.now c.loop-byte.byte-index c.loop-byte.sum c.loop-byte.invariant.1 (search rules)
