-- `queue_listing::with_verdict` meets its contract.
use native.Mathlib.Omega.{arith}
use Rattle.queue_listing.proofs.Adding.{within_said, beyond_said, spent_said, cut_said, adds_verdict}
use Rattle.queue_listing.proofs.with_verdict.Goals as goal

pub returns-then-verdict-eq1 : goal.returns-then-verdict-eq1
returns-then-verdict-eq1 c =
    let q = adds_verdict _ _ _ (within_said _ _ c.if-verdict-eq1.true) (omega arith) (c.with_named.ensures.adds, c.with_named.ensures.len_bound) in
    record { adds = q.0; len_bound = q.1 }

pub returns-then-verdict-eq2 : goal.returns-then-verdict-eq2
returns-then-verdict-eq2 c =
    let q = adds_verdict _ _ _ (beyond_said _ _ c.if-verdict-eq2.true) (omega arith) (c.with_named-then-verdict-eq2.ensures.adds, c.with_named-then-verdict-eq2.ensures.len_bound) in
    record { adds = q.0; len_bound = q.1 }

pub returns-then-finished : goal.returns-then-finished
returns-then-finished c =
    let q = adds_verdict _ _ _ (spent_said _ _ c.if-verdict-eq1.false c.if-verdict-eq2.false c.if-finished.true) (omega arith) (c.with_named-then-finished.ensures.adds, c.with_named-then-finished.ensures.len_bound) in
    record { adds = q.0; len_bound = q.1 }

pub returns : goal.returns
returns c =
    let q = adds_verdict _ _ _ (cut_said _ _ c.if-verdict-eq1.false c.if-verdict-eq2.false c.if-finished.false) (omega arith) (c.with_named-2.ensures.adds, c.with_named-2.ensures.len_bound) in
    record { adds = q.0; len_bound = q.1 }
