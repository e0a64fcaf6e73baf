-- `listing::with_boats` meets its contract.
use borrow.Author.Rules.{rules}
use Rattle.listing.proofs.Listings.{boats_start, boats_more, boats_end}
use Prim.Native.Nat.{◌-◌}
use Rattle.listing.proofs.with_boats.Goals as goal

pub loop-i-init : goal.loop-i-init
loop-i-init c = search (rules, boats_start)

pub loop-i-preserved : goal.loop-i-preserved
loop-i-preserved c = search (rules, boats_more)

pub returns : goal.returns
returns c = search (rules, boats_end)
