-- `lean_listing::with_boats` meets its contract.
use native.Mathlib.Omega.{arith}
use Rattle.lean_listing.proofs.Adding.{boats_start, boats_more, boats_end}
use Rattle.lean_listing.proofs.with_boats.Goals as goal

pub loop-i-init : goal.loop-i-init
loop-i-init c = boats_start c.requires.1 c.requires.3

pub cards_on-requires : goal.cards_on-requires
cards_on-requires c = (omega arith, omega arith, omega arith)

pub with_boat-longer-requires : goal.with_boat-longer-requires
with_boat-longer-requires c = (omega arith, omega arith)

pub loop-i-preserved : goal.loop-i-preserved
loop-i-preserved c = boats_more c.loop-i.invariant c.loop-i-test.true (c.cards_on.ensures.by_index _ c.loop-i-test.true) (omega arith) c.with_boat-longer.ensures.adds

pub returns : goal.returns
returns c =
    let q = boats_end c.loop-i.invariant c.loop-i-test.false in
    record { adds = q.0; len_bound = q.1 }
