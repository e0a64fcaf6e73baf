-- `test_card_cases::flips::flips` meets its contract.
use mathlib.Core.Path.{◌∙◌, ap}
use lib.ListN.{length}
use Rattle.test_card_cases.proofs.flips.flips.Goals as goal

pub loop-at-preserved : goal.loop-at-preserved
loop-at-preserved c = c.flip_byte.ensures ∙ c.loop-at.invariant

pub shape_of-filed : goal.shape_of-filed
shape_of-filed c = ap length c.loop-at.invariant

pub returns : goal.returns
returns c = c.loop-at.invariant
