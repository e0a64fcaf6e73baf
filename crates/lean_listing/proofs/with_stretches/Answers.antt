-- `lean_listing::with_stretches` meets its contract. The loop keeps `StretchesAdded`: the text has the lines of the first i stretches, and those that are left complete it.
-- A turn adds the line of stretch i, of at most 15 bytes.
use native.Mathlib.Omega.{arith}
use Rattle.lean_listing.proofs.Adding.{stretches_start, stretches_more, stretches_end}
use Rattle.lean_listing.proofs.with_stretches.Goals as goal

pub loop-i-init : goal.loop-i-init
loop-i-init c = stretches_start c.requires

pub most_used-boat-requires : goal.most_used-boat-requires
most_used-boat-requires c = (omega arith, omega arith, omega arith)

pub with_pair-longer-requires : goal.with_pair-longer-requires
with_pair-longer-requires c = omega arith

pub loop-i-preserved : goal.loop-i-preserved
loop-i-preserved c = stretches_more c.loop-i.invariant (omega arith) (c.most_used-boat.ensures.value, c.most_used-boat.ensures.upper_bound) c.with_pair-longer.ensures.adds

pub returns : goal.returns
returns c = stretches_end c.loop-i.invariant (omega arith)
