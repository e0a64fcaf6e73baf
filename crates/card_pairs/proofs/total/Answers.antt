-- `card_pairs::total` meets its contract. The loop keeps `Totalling`: the sum is the total of the first i shares, small enough for its type.
-- A turn adds one share.
-- It ends: the shares that are left fall by one.
use mathlib.Core.Path.{◌≡◌}
use lib.ListN.{length}
use borrow.Author.Rules.{rules}
use Prim.Native.Nat.{◌-◌}
use native.Mathlib.Omega.{arith}
use Rattle.card_pairs.proofs.Pairs.{totalling_start, totalling_more, totalling_end}
use Rattle.card_pairs.proofs.total.Goals as goal

pub loop-i-init : goal.loop-i-init
loop-i-init c = totalling_start

pub loop-i-preserved : goal.loop-i-preserved
loop-i-preserved c =
    let l : length c.args.shares ≡ 256 = search rules in
    totalling_more c.loop-i.invariant (omega arith) c.loop-i-test.true _ c.wide-sum.ensures.value c.wide-sum.ensures.upper_bound

pub returns : goal.returns
returns c =
    let l : length c.args.shares ≡ 256 = search rules in
    totalling_end c.loop-i.invariant (omega arith) c.loop-i-test.false
