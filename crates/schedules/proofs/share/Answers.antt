-- `schedules::share` meets its contract.
use Rattle.schedules.proofs.Lent.{lent_most, lent_share, fixed_most, fixed_share}
use native.Mathlib.Omega.{arith}
use Rattle.schedules.proofs.share.Goals as goal

pub bounds-entries-k : goal.bounds-entries-k
bounds-entries-k c = (lent_most _ c.in-Some.is c.requires).1

pub returns-in-Some : goal.returns-in-Some
returns-in-Some c = lent_share _ c.in-Some.is _ c.wide.ensures.0

pub overflow_add-result : goal.overflow_add-result
overflow_add-result c = omega (arith, fixed_most c.in-None.is c.requires)

pub returns-in-None : goal.returns-in-None
returns-in-None c = fixed_share c.in-None.is _
