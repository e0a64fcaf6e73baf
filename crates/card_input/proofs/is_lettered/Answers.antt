-- `card_input::is_lettered` meets its contract.
use Rattle.card_input.proofs.Reading.{former_lettered, other_lettered}
use Rattle.card_input.proofs.is_lettered.Goals as goal

pub returns-then-ends_with : goal.returns-then-ends_with
returns-then-ends_with c = former_lettered c.args.card.now c.requires c.ends_with.ensures c.if-ends_with.true

pub returns : goal.returns
returns c = other_lettered c.args.card.now c.requires c.ends_with.ensures c.if-ends_with.false c.ends_with-2.ensures
