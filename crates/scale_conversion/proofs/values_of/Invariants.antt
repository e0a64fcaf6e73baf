-- `scale_conversion::values_of` meets its contract. The loop keeps `Converting`: the first i cells are converted and none of them refuses, so the cells that are left decide.
-- A turn converts one cell: a refusal ends the loop, else its value is stored.
-- It ends: the cells that are left fall by one.
use Prim.Native.Nat.{◌≤◌}
use Rattle.scale_conversion.proofs.Converting.{Converting}
use Rattle.scale_conversion.proofs.values_of.Given as goal

abbrev pub invariant-loop-i : goal.invariant-loop-i
invariant-loop-i l = (l.i ≤ l.columns) × Converting l.columns l.cells l.i l.values
