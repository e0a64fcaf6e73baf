-- `totals::total_after` meets its contract.
use native.Mathlib.Omega.{arith}
use Rattle.method.specs.Problem.{fixed, weight}
use Rattle.totals.proofs.Table.{entry}
use Rattle.totals.proofs.total_after.Goals as goal

pub returns : goal.returns
unfolding weight
returns c = entry (weight fixed) 361 c.args.t (omega arith)
