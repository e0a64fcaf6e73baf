-- `test_gap::followed` meets its contract.
use mathlib.Core.Path.{sym}
use Rattle.iteration.proofs.States.{sheet_fits}
use Rattle.test_gap.proofs.followed.Goals as goal

pub follow-found-requires : goal.follow-found-requires
follow-found-requires c =
    let ok = sym c.in_default.ensures in
    record { sheet_value = ok; layout_value = c.layout_of-layout.ensures; holds = c.fresh-start.ensures _ }

pub steps-requires : goal.steps-requires
steps-requires c = (sheet_fits _ _ (sym c.in_default.ensures)).at_least
