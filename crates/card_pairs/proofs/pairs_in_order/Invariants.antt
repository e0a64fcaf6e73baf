-- `card_pairs::pairs_in_order` meets its contract. The loop keeps `Ordering`: the first i pairs are in order, so the pairs that are left decide, with the least number that the next boat may have.
-- A turn tests one pair: a fault ends the loop, else the pairs behind it decide.
-- It ends: the pairs that are left fall by one.
use borrow.Author.Rules.{rules}
use Prim.Native.Nat.{◌-◌}
use Rattle.card_pairs.proofs.Pairs.{Ordering}
use Rattle.card_pairs.proofs.pairs_in_order.Given as goal

abbrev pub invariant-loop-i : goal.invariant-loop-i
invariant-loop-i l = Ordering l.card l.at l.count l.boats l.i l.next
