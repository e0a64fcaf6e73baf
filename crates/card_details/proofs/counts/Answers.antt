-- `card_details::counts` meets its contract.
use Rattle.card_details.proofs.Lines.{counts_told}
use Rattle.card_details.proofs.counts.Goals as goal

pub returns : goal.returns
returns c = counts_told _ _ _ c.named.ensures.holds c.with_bytes-begun.ensures c.with_number-first.ensures.adds c.with_bytes-between.ensures c.with_number-second.ensures.adds c.with_bytes.ensures
