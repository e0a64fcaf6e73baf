-- `queue_rounds::took` meets its contract.
use mathlib.Core.Path.{refl}
use Rattle.queue_rounds.proofs.took.Goals as goal

pub returns : goal.returns
returns c = refl
