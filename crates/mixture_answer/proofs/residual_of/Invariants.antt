-- `mixture_answer::residual_of` meets its contract. The loop keeps `Summing`: r is the sum over the boats before i of share times (row less target), no larger than the shares so far allow.
-- A turn adds boat i by `moved`.
-- It ends: the boats that are left fall by one.
use borrow.Author.Rules.{rules}
use Prim.Native.Nat.{◌-◌}
use native.Mathlib.Omega.{arith}
use Rattle.mixture_answer.proofs.Residuals.{Summing}
use Rattle.mixture_answer.proofs.residual_of.Given as goal

abbrev pub invariant-loop-i : goal.invariant-loop-i
invariant-loop-i l = Summing l.book l.sheet l.shares l.i l.r
