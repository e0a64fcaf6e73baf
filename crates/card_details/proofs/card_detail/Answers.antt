-- `card_details::card_detail` meets its contract.
use Rattle.card_details.proofs.Lines.{not_refused}
use Rattle.card_details.proofs.card_detail.Goals as goal

pub returns-then-refusal_of-refusal : goal.returns-then-refusal_of-refusal
returns-then-refusal_of-refusal c = not_refused _ _ _ _ c.refusal_of.ensures c.if-refusal_of-refusal.true c.empty.ensures
