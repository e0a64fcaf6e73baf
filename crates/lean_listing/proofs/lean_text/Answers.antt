-- `lean_listing::lean_text` meets its contract.
use native.Mathlib.Omega.{arith}
use Rattle.lean_listing.proofs.Refusing.{listable, given_refused, given_lines}
use Rattle.lean_listing.proofs.lean_text.Goals as goal

pub returns-then-number-ne0 : goal.returns-then-number-ne0
returns-then-number-ne0 c =
    let q = given_refused _ _ _ _ c.slots_refusal-number.ensures c.if-number-ne0.true c.empty.ensures c.with_line.ensures.adds in
    record { holds = q.0; reports_checked = q.1 }

pub boats-requires : goal.boats-requires
boats-requires c = (listable _ _ _ _ c.slots_refusal-number.ensures c.if-number-ne0.false).fits.at_least

pub lines-requires : goal.lines-requires
lines-requires c =
    let l = listable _ _ _ _ c.slots_refusal-number.ensures c.if-number-ne0.false in
    (l.few_cards, omega (arith, l.fits.some_boats), omega (arith, l.fits.most_boats), l.room)

pub returns : goal.returns
returns c =
    let q = given_lines _ _ _ _ c.slots_refusal-number.ensures c.if-number-ne0.false c.boats.ensures c.lines.ensures in
    record { holds = q.0; reports_checked = q.1 }
