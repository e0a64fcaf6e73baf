-- `card_output::holding` meets its contract. The loop keeps `Counting`: n of the first i boats hold shares.
-- A turn counts boat i if it holds shares.
-- It ends: the boats that are left fall by one.
use mathlib.Core.Path.{◌≡◌}
use lib.ListN.{length}
use borrow.Author.Rules.{rules}
use Prim.Native.Nat.{◌-◌}
use native.Mathlib.Omega.{arith}
use Rattle.card_output.proofs.Placing.{counting_start, counting_more, counting_end}
use Rattle.card_output.proofs.holding.Goals as goal

pub loop-i-init : goal.loop-i-init
loop-i-init c = counting_start

pub loop-i-preserved : goal.loop-i-preserved
loop-i-preserved c =
    let l : length c.args.shares ≡ 256 = search rules in
    counting_more c.loop-i.invariant (omega arith) c.loop-i-test.true _ c.held-n.ensures.value

pub returns : goal.returns
returns c =
    let l : length c.args.shares ≡ 256 = search rules in
    record { value = counting_end c.loop-i.invariant (omega arith) c.loop-i-test.false; upper_bound = search rules }
