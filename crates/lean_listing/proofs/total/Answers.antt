-- `lean_listing::total` meets its contract.
use native.Mathlib.Omega.{arith}
use Rattle.lean_listing.proofs.Counting.{totalled_start, totalled_more, totalled_end}
use Rattle.lean_listing.proofs.total.Goals as goal

pub loop-i-init : goal.loop-i-init
loop-i-init c = totalled_start c.requires.1

pub cards_on-sum-requires : goal.cards_on-sum-requires
cards_on-sum-requires c = (omega arith, omega arith, omega arith)

pub loop-i-preserved : goal.loop-i-preserved
loop-i-preserved c = totalled_more c.loop-i.invariant c.loop-i-test.true (c.cards_on-sum.ensures.by_index _ c.loop-i-test.true) (omega arith)

pub returns : goal.returns
returns c = totalled_end c.loop-i.invariant c.loop-i-test.false
