-- `file_parts::values_in_range` meets its contract. The loop keeps `Scanned`: `good` is the test of the first i values, and it and the values that are left decide.
-- A turn tests one value more; it does not stop at the first that is out of range.
-- It ends: the values that are left fall by one.
use Rattle.file_parts.proofs.Range.{Scanned}
use Rattle.file_parts.proofs.values_in_range.Given as goal

abbrev pub invariant-loop-i : goal.invariant-loop-i
invariant-loop-i l = Scanned l.b l.at l.count l.good l.i
