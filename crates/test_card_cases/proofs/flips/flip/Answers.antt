-- `test_card_cases::flips::flip` meets its contract.
use mathlib.Core.Path.{◌∙◌}
use lib.Seq.{set-set, set-get_or}
use Rattle.test_card_cases.proofs.flips.flip.Goals as goal

pub returns-then-at-filed : goal.returns-then-at-filed
returns-then-at-filed c =
    let x = c.args in
    set-set x.filed.now x.at _ _ ∙ set-get_or x.filed.now x.at 0
