-- `listing::head` meets its contract.
use Rattle.listing.proofs.Listings.{head_holds}
use borrow.Author.Rules.{rules}
use Rattle.listing.proofs.head.Goals as goal

pub returns : goal.returns
returns c =
    let x = c.args in
    let q = head_holds x.boats x.columns x.tolerance x.steps x.a c.empty.ensures (c.with_pair-fleet.ensures.adds, c.with_pair-fleet.ensures.len_bound)
    (c.with_pair-sheet.ensures.adds, c.with_pair-sheet.ensures.len_bound) (c.with_verdict-verdict.ensures.adds, c.with_verdict-verdict.ensures.len_bound) (c.with_line-distance.ensures.adds, c.with_line-distance.ensures.len_bound) (c.with_line.ensures.adds, c.with_line.ensures.len_bound) in
    record { holds = q.0; len_bound = q.1 }
