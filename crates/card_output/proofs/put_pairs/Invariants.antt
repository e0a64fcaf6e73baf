-- `card_output::put_pairs` meets its contract. The loop keeps `Pairing`: the pairs of the boats before i that hold shares stand before `at`, and those of the boats that are left complete the body.
-- A turn writes the pair of boat i if it holds shares.
-- It ends: the boats that are left fall by one.
use borrow.Author.Rules.{rules}
use Prim.Native.Nat.{◌-◌}
use native.Mathlib.Omega.{arith}
use Rattle.card_output.proofs.Placing.{Pairing}
use Rattle.card_output.proofs.put_pairs.Given as goal

abbrev pub invariant-loop-i : goal.invariant-loop-i
invariant-loop-i l = Pairing l.initial.output l.boats l.shares l.i l.at l.output
