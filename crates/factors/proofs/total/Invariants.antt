-- `factors::total` meets its contract: `Counted` is the loop's invariant.
use Rattle.factors.proofs.Factors.{Counted}
use Rattle.factors.proofs.total.Given as goal

abbrev pub invariant-loop-factor : goal.invariant-loop-factor
invariant-loop-factor l = Counted l.list l.n l.factor-index
