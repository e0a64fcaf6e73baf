-- `exported_cards::dofitrano_better_card` meets its contract, which is that of `choose`.
use borrow.Author.Rules.{rules}
use Rattle.exported_cards.proofs.dofitrano_better_card.Goals as goal

pub returns : goal.returns
returns c = record { value = c.choose.ensures.value; better_right = c.choose.ensures.better_right; len_in_bounds = c.choose.ensures.len_in_bounds }
