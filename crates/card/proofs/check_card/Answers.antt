-- `card::check_card` meets its contract: that of `check_card_with`, with nothing handed in.
use Rattle.card.proofs.check_card.Goals as goal

pub returns : goal.returns
returns c = record { value = c.check_card_with.ensures.value; shares_after = c.check_card_with.ensures.shares_after; check_right = c.check_card_with.ensures.check_right_with }
