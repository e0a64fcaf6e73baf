-- `schedules::table_refusal` meets its contract. The loop keeps `Testing`: `total` is the sum of the first i entries, and the entries from i on decide as all do.
-- A turn adds entry i and tests it; one that does not fit ends the function.
-- It ends: the entries that are left fall by one.
use native.Mathlib.Omega.{arith}
use mathlib.Core.Path.{sym, ◌∙◌}
use Rattle.schedules.proofs.Tables.{testing_start, testing_most, testing_more, entry_refused, length_refused, total_refused, table_taken}
use Rattle.schedules.proofs.table_refusal.Goals as goal

pub returns-then-not-is_between : goal.returns-then-not-is_between
returns-then-not-is_between c = length_refused _ (sym c.is_between.ensures ∙ c.if-not-is_between.true)

pub loop-i-init : goal.loop-i-init
loop-i-init c = testing_start _ (sym c.is_between.ensures ∙ c.if-not-is_between.false)

pub overflow_add-total : goal.overflow_add-total
overflow_add-total c = omega (arith, testing_most c.loop-i.invariant, c.wide-entry.ensures.1)

pub entry_fits-requires : goal.entry_fits-requires
entry_fits-requires c = (c.wide-entry.ensures.1, omega (arith, testing_most c.loop-i.invariant, c.wide-entry.ensures.1))

pub returns-then-not-entry_fits : goal.returns-then-not-entry_fits
returns-then-not-entry_fits c = entry_refused c.loop-i.invariant c.loop-i-test.true c.wide-entry.ensures.0 c.wide-entry.ensures.1 (sym c.if-not-entry_fits.true ∙ c.entry_fits.ensures)

pub loop-i-preserved : goal.loop-i-preserved
loop-i-preserved c = testing_more c.loop-i.invariant c.loop-i-test.true c.wide-entry.ensures.0 c.wide-entry.ensures.1 (sym c.if-not-entry_fits.false ∙ c.entry_fits.ensures)

pub returns-then-total-gt64980 : goal.returns-then-total-gt64980
returns-then-total-gt64980 c = total_refused c.loop-i.invariant c.loop-i-test.false c.if-total-gt64980.true

pub returns : goal.returns
returns c = table_taken c.loop-i.invariant c.loop-i-test.false c.if-total-gt64980.false
