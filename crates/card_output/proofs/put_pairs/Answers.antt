-- `card_output::put_pairs` meets its contract. The loop keeps `Pairing`: the pairs of the boats before i that hold shares stand before `at`, and those of the boats that are left complete the body.
-- A turn writes the pair of boat i if it holds shares.
-- It ends: the boats that are left fall by one.
use borrow.Author.Rules.{rules}
use mathlib.Core.Path.{◌≡◌}
use lib.ListN.{length}
use Prim.Native.Nat.{◌-◌}
use native.Mathlib.Omega.{arith}
use Rattle.card_output.proofs.Placing.{pairing_start, pair_room, pairing_more, pairing_end}
use Rattle.card_output.proofs.put_pairs.Goals as goal

pub loop-i-init : goal.loop-i-init
loop-i-init c = pairing_start

pub put_pair-at-requires : goal.put_pair-at-requires
put_pair-at-requires c =
    let l : length c.args.shares ≡ 256 = search rules in
    pair_room c.loop-i.invariant (omega arith) c.loop-i-test.true c.requires.shares_in_bounds

pub loop-i-preserved : goal.loop-i-preserved
loop-i-preserved c =
    let l : length c.args.shares ≡ 256 = search rules in
    pairing_more c.loop-i.invariant (omega arith) c.loop-i-test.true c.requires.shares_in_bounds _ _ c.put_pair-at.ensures.value c.put_pair-at.ensures.output_after

pub returns : goal.returns
returns c =
    let l : length c.args.shares ≡ 256 = search rules in
    pairing_end c.loop-i.invariant (omega arith) c.loop-i-test.false
