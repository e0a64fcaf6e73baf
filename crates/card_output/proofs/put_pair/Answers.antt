-- `card_output::put_pair` meets its contract.
use native.Mathlib.Omega.{arith}
use Rattle.card_output.proofs.Placing.{pair_skipped, pair_long, pair_placed}
use borrow.Author.Rules.{rules}
use Rattle.card_output.proofs.put_pair.Goals as goal

pub returns-then-share-eq0 : goal.returns-then-share-eq0
returns-then-share-eq0 c =
    let q = pair_skipped _ _ _ _ c.if-share-eq0.true in
    record { value = q.0; output_after = q.1 }

pub put-requires : goal.put-requires
put-requires c = omega (arith, pair_long c.args.boat c.args.share c.if-share-eq0.false, c.requires)

pub put-requires-2 : goal.put-requires-2
put-requires-2 c = omega (arith, pair_long c.args.boat c.args.share c.if-share-eq0.false, c.requires, c.put.auto)

pub returns : goal.returns
returns c =
    let q = pair_placed _ _ _ _ c.if-share-eq0.false c.requires c.put.ensures c.put-2.ensures in
    record { value = q.0; output_after = q.1 }
