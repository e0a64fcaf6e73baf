-- `card_pairs::shares_of` meets its contract. The loop keeps `Taking`: the shares of the first i pairs are in the list, and the pairs that are left complete it.
-- A turn stores one share at its boat.
-- It ends: the pairs that are left fall by one.
use borrow.Author.Rules.{rules}
use Prim.Native.Nat.{◌-◌}
use Rattle.card_pairs.proofs.Pairs.{taking_start, taking_slot, taking_more, taking_end}
use Rattle.card_pairs.proofs.shares_of.Goals as goal

pub loop-i-init : goal.loop-i-init
loop-i-init c = taking_start

pub bounds-shares-boat : goal.bounds-shares-boat
bounds-shares-boat c = search (rules, taking_slot)

pub loop-i-preserved : goal.loop-i-preserved
loop-i-preserved c = search (rules, taking_more)

pub returns : goal.returns
returns c = search (rules, taking_end)
