-- `card_pairs::total` meets its contract. The loop keeps `Totalling`: the sum is the total of the first i shares, small enough for its type.
-- A turn adds one share.
-- It ends: the shares that are left fall by one.
use borrow.Author.Rules.{rules}
use Prim.Native.Nat.{◌-◌}
use native.Mathlib.Omega.{arith}
use Rattle.card_pairs.proofs.Pairs.{Totalling}
use Rattle.card_pairs.proofs.total.Given as goal

abbrev pub invariant-loop-i : goal.invariant-loop-i
invariant-loop-i l = Totalling l.boats l.shares l.i l.sum
