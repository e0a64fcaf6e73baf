-- `factors::are_ones` meets its contract: `Ones` is the loop's invariant.
use Rattle.factors.proofs.Factors.{Ones}
use Rattle.factors.proofs.are_ones.Given as goal

abbrev pub invariant-loop-factor : goal.invariant-loop-factor
invariant-loop-factor l = Ones l.list l.factor-index
