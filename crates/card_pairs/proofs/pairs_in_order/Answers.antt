-- `card_pairs::pairs_in_order` meets its contract. The loop keeps `Ordering`: the first i pairs are in order, so the pairs that are left decide, with the least number that the next boat may have.
-- A turn tests one pair: a fault ends the loop, else the pairs behind it decide.
-- It ends: the pairs that are left fall by one.
use borrow.Author.Rules.{rules}
use Prim.Native.Nat.{◌-◌}
use Rattle.card_pairs.proofs.Pairs.{ordering_start, ordering_out, ordering_more, ordering_end}
use Rattle.card_pairs.proofs.pairs_in_order.Goals as goal

pub loop-i-init : goal.loop-i-init
loop-i-init c = ordering_start

pub returns-then-not-pair_fits : goal.returns-then-not-pair_fits
returns-then-not-pair_fits c = search (rules, ordering_out)

pub loop-i-preserved : goal.loop-i-preserved
loop-i-preserved c = search (rules, ordering_more)

pub returns : goal.returns
returns c = search (rules, ordering_end)
