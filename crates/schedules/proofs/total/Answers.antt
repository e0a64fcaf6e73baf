-- `schedules::total` meets its contract.
use Rattle.schedules.proofs.Lent.{lent_most, lent_total, fixed_most, fixed_total}
use Rattle.schedules.proofs.total.Goals as goal

pub entries_total-requires : goal.entries_total-requires
entries_total-requires c = lent_most _ c.in-Some.is c.requires

pub returns-in-Some : goal.returns-in-Some
returns-in-Some c = lent_total _ c.in-Some.is _ c.entries_total.ensures

pub total_after-requires : goal.total_after-requires
total_after-requires c = fixed_most c.in-None.is c.requires

pub returns-in-None : goal.returns-in-None
returns-in-None c = fixed_total c.in-None.is _ c.total_after.ensures
