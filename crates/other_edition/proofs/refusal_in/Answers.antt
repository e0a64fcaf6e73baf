-- `other_edition::refusal_in` meets its contract: a law for each return.
use mathlib.Core.Path.{sym, ◌∙◌}
use Rattle.files.proofs.Accepted.{sheet_passed}
use Rattle.editions.proofs.Rewriting.{by_own, by_factor, by_short, by_large, by_none}
use mathlib.Core.Path.{ap}
use mathlib.Core.Bool.{not}
use Rattle.refusals.proofs.Numbers.{positive, passed_on}
use Rattle.other_edition.proofs.refusal_in.Goals as goal

pub returns-in_err-sheet_refusal_in : goal.returns-in_err-sheet_refusal_in
returns-in_err-sheet_refusal_in c = passed_on _ _ c.from_residual.ensures (by_own _ _ c.in_err-sheet_refusal_in.ensures (positive _))

pub is_plain-requires : goal.is_plain-requires
is_plain-requires c = (sheet_passed 1 64 _ (sym c.in_ok-sheet_refusal_in.ensures)).fits.whole

pub returns-then-not-is_plain : goal.returns-then-not-is_plain
returns-then-not-is_plain c = by_factor _ _ (sym c.in_ok-sheet_refusal_in.ensures) _ c.is_plain.ensures (ap not c.if-not-is_plain.true)

pub other_number-number-requires : goal.other_number-number-requires
other_number-number-requires c = (sheet_passed 1 64 _ (sym c.in_ok-sheet_refusal_in.ensures)).fits.at_least

pub other_size-size-requires : goal.other_size-size-requires
other_size-size-requires c = record { convertible = (sym c.in_ok-sheet_refusal_in.ensures, sym c.is_plain.ensures ∙ c.if-not-is_plain.false); number_value = c.other_number-number.ensures }

pub returns-then-room-size : goal.returns-then-room-size
returns-then-room-size c = by_short _ _ (sym c.in_ok-sheet_refusal_in.ensures) _ c.is_plain.ensures (ap not c.if-not-is_plain.false) _ c.other_size-size.ensures c.if-room-size.true

pub returns-then-size-gt-MOST_BYTES : goal.returns-then-size-gt-MOST_BYTES
returns-then-size-gt-MOST_BYTES c = by_large _ _ (sym c.in_ok-sheet_refusal_in.ensures) _ c.is_plain.ensures (ap not c.if-not-is_plain.false) _ c.other_size-size.ensures c.if-room-size.false c.if-size-gt-MOST_BYTES.true

pub returns : goal.returns
returns c = by_none _ _ (sym c.in_ok-sheet_refusal_in.ensures) _ c.is_plain.ensures (ap not c.if-not-is_plain.false) _ c.other_size-size.ensures c.if-room-size.false c.if-size-gt-MOST_BYTES.false
