-- `released_card::may_stand` meets its contract.
use Rattle.released_card.proofs.may_stand.Goals as goal

pub returns : goal.returns
returns c = simp c.if-used.false
