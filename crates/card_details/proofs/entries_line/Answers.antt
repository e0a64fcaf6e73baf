-- `card_details::entries_line` meets its contract. The loop keeps `Entered`: the first i entries have no fault, so the entries that are left give the line.
-- A turn tests one entry: a fault ends the loop with its line, else the entries behind it give it.
use mathlib.Core.Path.{refl}
use borrow.Author.Rules.{rules}
use Rattle.card_details.proofs.Lines.{entered_start, entered_end, entered_fault, entered_more}
use Rattle.card_details.proofs.entries_line.Goals as goal

pub loop-i-init : goal.loop-i-init
loop-i-init c = entered_start

pub returns-in-Some : goal.returns-in-Some
returns-in-Some c = entered_fault c.loop-i.invariant c.loop-i-test.true c.u16_at-boat.ensures.value c.u16_at.ensures.value refl _ c.in-Some.ensures c.entry_line.ensures

pub loop-i-preserved : goal.loop-i-preserved
loop-i-preserved c = entered_more c.loop-i.invariant c.loop-i-test.true c.u16_at-boat.ensures.value c.u16_at.ensures.value c.in_default.ensures refl

pub returns : goal.returns
returns c = search (rules, entered_end)
