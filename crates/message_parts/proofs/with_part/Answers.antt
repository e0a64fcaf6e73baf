-- `message_parts::with_part` meets its contract.
use Rattle.message_parts.proofs.Parts.{part_none, part_some}
use Rattle.message_parts.proofs.with_part.Goals as goal

pub returns-then-name-eq0 : goal.returns-then-name-eq0
returns-then-name-eq0 c =
    let q = part_none _ c.if-name-eq0.true c.requires in
    record { adds = q.0; len_bound = q.1 }

pub returns : goal.returns
returns c =
    let q = part_some _ c.if-name-eq0.false c.with_bytes-begun.ensures c.with_shown.ensures in
    record { adds = q.0; len_bound = q.1 }
