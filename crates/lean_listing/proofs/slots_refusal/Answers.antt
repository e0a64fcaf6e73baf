-- `lean_listing::slots_refusal` meets its contract.
use mathlib.Core.Path.{refl, sym, ap, ◌∙◌}
use native.Mathlib.Omega.{arith}
use Rattle.refusals.specs.Numbers.{refusal_number}
use Rattle.refusals.proofs.Numbers.{positive}
use Rattle.lean_listing.proofs.Refusing.{by_before, by_start, few_cards, by_room, by_none}
use Rattle.lean_listing.proofs.slots_refusal.Goals as goal

pub returns-then-refusal-ne0 : goal.returns-then-refusal-ne0
returns-then-refusal-ne0 c = by_before _ _ _ _ c.if-refusal-ne0.true

pub returns-in-Err : goal.returns-in-Err
returns-in-Err c =
    by_start _ _ _ _ c.if-refusal-ne0.false (c.number.ensures ∙ sym (ap refusal_number c.in-Err.is) ∙ c.lean_start.ensures.value)
    (λ z. positive _ (sym c.number.ensures ∙ z))

pub overflow_mul-cards : goal.overflow_mul-cards
overflow_mul-cards c = omega (arith, few_cards _ _ _ 0 c.if-refusal-ne0.false (sym (ap refusal_number c.in_default.is) ∙ c.lean_start.ensures.value) refl)

pub returns-then-slots-cards : goal.returns-then-slots-cards
returns-then-slots-cards c = by_room _ _ _ _ c.if-refusal-ne0.false (sym (ap refusal_number c.in_default.is) ∙ c.lean_start.ensures.value) refl c.if-slots-cards.true

pub returns : goal.returns
returns c = by_none _ _ _ _ c.if-refusal-ne0.false (sym (ap refusal_number c.in_default.is) ∙ c.lean_start.ensures.value) refl c.if-slots-cards.false
