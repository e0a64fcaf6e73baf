-- `queue_listing::with_sheet` meets its contract.
use native.Mathlib.Omega.{arith}
use Rattle.queue_listing.proofs.Adding.{adds_sheet}
use Rattle.queue_listing.proofs.with_sheet.Goals as goal

pub with_bytes-requires : goal.with_bytes-requires
with_bytes-requires c = omega (arith, c.with_named-fourth.ensures.len_bound, c.with_verdict-third.ensures.len_bound, c.with_named-second.ensures.len_bound, c.with_named-first.ensures.len_bound, c.with_named-numbered.ensures.len_bound, c.requires.1)

pub returns : goal.returns
returns c =
    let q = adds_sheet _ _ (c.with_named-numbered.ensures.adds, c.with_named-numbered.ensures.len_bound) (c.with_named-first.ensures.adds, c.with_named-first.ensures.len_bound) (c.with_named-second.ensures.adds, c.with_named-second.ensures.len_bound) (c.with_verdict-third.ensures.adds, c.with_verdict-third.ensures.len_bound) (c.with_named-fourth.ensures.adds, c.with_named-fourth.ensures.len_bound) c.with_bytes.ensures in
    record { adds = q.0; len_bound = q.1 }
