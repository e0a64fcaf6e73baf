-- `card::fill` meets its contract: the first slots are the part that is lent.
use Rattle.card.proofs.fill.Goals as goal

pub returns : goal.returns
returns c = rw c.copy_from_slice.ensures.after
