-- `schedules::entries_total` meets its contract. The loop keeps `Totalling`: `total` is the sum of the first i entries, each below 65,536.
-- A turn adds entry i.
-- It ends: the entries that are left fall by one.
use Prim.Native.Nat.{◌≤◌}
use Rattle.schedules.proofs.Tables.{Totalling}
use Rattle.schedules.proofs.entries_total.Given as goal

abbrev pub invariant-loop-i : goal.invariant-loop-i
invariant-loop-i l = (l.i ≤ l.count) × Totalling l.table l.i l.total
