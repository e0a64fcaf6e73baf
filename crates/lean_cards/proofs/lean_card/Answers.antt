-- `lean_cards::lean_card` meets its contract.
use Rattle.lean_cards.proofs.Adding.{given_refused, given_answered}
use mathlib.Core.Path.{refl}
use Rattle.refusals.proofs.Numbers.{passed_on}
use Rattle.lean_cards.proofs.lean_card.Goals as goal

pub returns-in_err-check_card : goal.returns-in_err-check_card
returns-in_err-check_card c =
    let x = c.args in
    let q = given_refused x.book.now x.sheet.now x.filed.now x.slots.now x.before c.slots_start-start.result c.slots_start-start.ensures
    (c.in_err-check_card.ensures.value, c.in_err-check_card.ensures.shares_after) refl (passed_on _ _ c.from_residual.ensures refl) in
    record { value = q.0; slots_after = q.1.0; adds_pair = q.1.1 }

pub returns : goal.returns
returns c =
    let x = c.args in
    let q = given_answered x.book.now x.sheet.now x.filed.now x.slots.now x.before c.slots_start-start.result c.slots_start-start.ensures
    (c.in_ok-check_card.ensures.value, c.in_ok-check_card.ensures.shares_after) refl in
    record { value = q.0; slots_after = q.1.0; adds_pair = q.1.1 }
