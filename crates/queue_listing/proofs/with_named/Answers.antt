-- `queue_listing::with_named` meets its contract.
use Rattle.queue_listing.proofs.Adding.{adds_named}
use Rattle.queue_listing.proofs.with_named.Goals as goal

pub returns : goal.returns
returns c =
    let q = adds_named _ c.with_bytes.ensures (c.with_number.ensures.adds, c.with_number.ensures.len_bound) in
    record { adds = q.0; len_bound = q.1 }
