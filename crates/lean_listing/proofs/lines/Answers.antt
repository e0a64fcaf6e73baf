-- `lean_listing::lines` meets its contract.
use Rattle.lean_listing.proofs.Adding.{lines_hold}
use Rattle.lean_listing.proofs.lines.Goals as goal

pub returns : goal.returns
returns c = lines_hold _ _ _ c.empty.ensures c.with_boats-begun.ensures.adds c.total.ensures c.with_line-totalled.ensures.adds c.with_stretches.ensures
