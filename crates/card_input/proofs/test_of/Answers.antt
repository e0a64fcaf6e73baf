-- `card_input::test_of` meets its contract.
use Rattle.card_input.proofs.Reading.{tested_sharper, tested_former}
use Rattle.card_input.proofs.test_of.Goals as goal

pub returns-then-ends_with : goal.returns-then-ends_with
returns-then-ends_with c = tested_sharper c.args.card.now c.requires c.ends_with.ensures c.if-ends_with.true

pub returns : goal.returns
returns c = tested_former c.args.card.now c.requires c.ends_with.ensures c.if-ends_with.false
