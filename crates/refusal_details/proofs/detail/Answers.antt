-- `refusal_details::detail` meets its contract.
use mathlib.Core.Path.{◌∙◌}
use Rattle.refusal_details.proofs.Lines.{not_refused, accepted}
use Rattle.refusal_details.proofs.detail.Goals as goal

pub returns-in_default : goal.returns-in_default
returns-in_default c = accepted _ _ _ c.in_default.ensures c.empty.ensures

pub returns-then-number-refusal : goal.returns-then-number-refusal
returns-then-number-refusal c = not_refused _ _ c.in-Err.ensures (λ e. c.if-number-refusal.true (c.number.ensures ∙ e)) c.empty-then-number-refusal.ensures
