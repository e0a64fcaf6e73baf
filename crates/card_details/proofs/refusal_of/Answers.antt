-- `card_details::refusal_of` meets its contract.
use mathlib.Core.Path.{◌∙◌}
use Rattle.card_details.proofs.Lines.{refused_number, answered_number}
use Rattle.card_details.proofs.refusal_of.Goals as goal

pub returns-in-Err : goal.returns-in-Err
returns-in-Err c = c.number.ensures ∙ refused_number _ _ c.check_card.ensures.value _ c.in-Err.is

pub returns-in-Ok : goal.returns-in-Ok
returns-in-Ok c = answered_number _ _ c.check_card.ensures.value _ c.in-Ok.is
