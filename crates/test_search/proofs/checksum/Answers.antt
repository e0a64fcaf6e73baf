-- `test_search::checksum` meets its contract.
use borrow.Author.Rules.{rules}
use native.Mathlib.Omega.{arith}
use Rattle.test_buffers.proofs.Sums.{sum_more, sum_end}
use Rattle.test_search.proofs.checksum.Goals as goal

pub loop-slot-preserved : goal.loop-slot-preserved
loop-slot-preserved c = (omega arith, sum_more c.args.slots.now c.loop-slot.slot-index c.loop-slot.sum c.loop-slot.invariant.1 (search rules) c.wide.ensures.value)

pub returns : goal.returns
returns c = sum_end c.args.slots.now c.loop-slot.slot-index c.loop-slot.sum c.loop-slot.invariant.1 (search rules)
