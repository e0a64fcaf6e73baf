-- `scoring::products` meets its contract. The loop keeps `Stored`: row i starts at the place kept, and the products of the rows before it are in the first i slots.
-- A turn stores the product with row i.
-- It ends: the boats that are left fall by one.
use Prim.Native.Nat.{◌-◌}
use lib.ListN.{take}
use Rattle.scoring.proofs.Passes.{Stored}
use Rattle.scoring.proofs.products.Given as goal

abbrev pub invariant-loop-i : goal.invariant-loop-i
invariant-loop-i l = Stored (take l.columns l.d) l.book l.at l.boats l.columns l.initial.to l.to l.row l.i
