-- `test_card_cases::flips::flip_byte` meets its contract.
use mathlib.Core.Path.{◌∙◌, ap}
use borrow.Author.Rules.{rules}
use lib.ListN.{length}
use Rattle.test_card_cases.proofs.flips.flip_byte.Goals as goal

pub loop-i-preserved : goal.loop-i-preserved
loop-i-preserved c = (search rules, c.flip.ensures ∙ c.loop-i.invariant.1)

pub shape_of-filed : goal.shape_of-filed
shape_of-filed c = ap length c.loop-i.invariant.1

pub returns : goal.returns
returns c = c.loop-i.invariant.1
