-- `schedules::steps` meets its contract.
use Rattle.schedules.proofs.Lent.{lent_fewer, lent_enough, fixed_steps}
use Rattle.schedules.proofs.steps.Goals as goal

pub returns-then-entries-asked : goal.returns-then-entries-asked
returns-then-entries-asked c = lent_fewer _ c.in-Some.is _ c.if-entries-asked.true

pub returns-else-entries-asked : goal.returns-else-entries-asked
returns-else-entries-asked c = lent_enough _ c.in-Some.is _ c.if-entries-asked.false

pub returns-in_default : goal.returns-in_default
returns-in_default c = fixed_steps c.in_default.is _
