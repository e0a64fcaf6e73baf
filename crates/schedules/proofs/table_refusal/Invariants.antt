-- `schedules::table_refusal` meets its contract. The loop keeps `Testing`: `total` is the sum of the first i entries, and the entries from i on decide as all do.
-- A turn adds entry i and tests it; one that does not fit ends the function.
-- It ends: the entries that are left fall by one.
use Rattle.schedules.proofs.Tables.{Testing}
use Rattle.schedules.proofs.table_refusal.Given as goal

abbrev pub invariant-loop-i : goal.invariant-loop-i
invariant-loop-i l = Testing l.table l.i l.total
