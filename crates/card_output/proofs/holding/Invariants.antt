-- `card_output::holding` meets its contract. The loop keeps `Counting`: n of the first i boats hold shares.
-- A turn counts boat i if it holds shares.
-- It ends: the boats that are left fall by one.
use borrow.Author.Rules.{rules}
use Prim.Native.Nat.{◌-◌}
use native.Mathlib.Omega.{arith}
use Rattle.card_output.proofs.Placing.{Counting}
use Rattle.card_output.proofs.holding.Given as goal

abbrev pub invariant-loop-i : goal.invariant-loop-i
invariant-loop-i l = Counting l.boats l.shares l.i l.n
