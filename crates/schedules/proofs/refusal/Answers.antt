-- `schedules::refusal` meets its contract.
use Rattle.schedules.proofs.Lent.{lent_refusal, fixed_refusal}
use Rattle.schedules.proofs.refusal.Goals as goal

pub returns-in-Some : goal.returns-in-Some
returns-in-Some c = lent_refusal _ c.in-Some.is c.table_refusal.ensures

pub returns-in-None : goal.returns-in-None
returns-in-None c = fixed_refusal c.in-None.is
