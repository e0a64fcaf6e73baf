-- `listing::with_boat` meets its contract.
use native.Mathlib.Omega.{arith}
use Rattle.listing.proofs.Listings.{no_boat_added, boat_added}
use borrow.Author.Rules.{rules}
use Rattle.listing.proofs.with_boat.Goals as goal

pub returns-then-share-eq0 : goal.returns-then-share-eq0
returns-then-share-eq0 c =
    let q = no_boat_added c.args.boat c.args.share (omega arith) c.if-share-eq0.true in
    record { adds = q.0; len_bound = q.1 }

pub returns : goal.returns
returns c =
    let q = boat_added c.args.boat c.args.share (omega arith) (omega arith) c.if-share-eq0.false c.with_pair.ensures.adds in
    record { adds = q.0; len_bound = q.1 }
