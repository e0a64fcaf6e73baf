-- `sheet_turn::plain_start` meets its contract: a fresh state serves whatever shares are to come.
use Rattle.method.specs.Problem.{fixed}
use Rattle.sheet_turn.proofs.plain_start.Goals as goal

pub returns : goal.returns
returns c = c.fresh.ensures fixed
