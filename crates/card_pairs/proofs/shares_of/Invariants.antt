-- `card_pairs::shares_of` meets its contract. The loop keeps `Taking`: the shares of the first i pairs are in the list, and the pairs that are left complete it.
-- A turn stores one share at its boat.
-- It ends: the pairs that are left fall by one.
use borrow.Author.Rules.{rules}
use Prim.Native.Nat.{◌-◌}
use Rattle.card_pairs.proofs.Pairs.{Taking}
use Rattle.card_pairs.proofs.shares_of.Given as goal

abbrev pub invariant-loop-i : goal.invariant-loop-i
invariant-loop-i l = Taking l.card l.at l.count l.i l.shares
