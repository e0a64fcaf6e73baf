-- `scoring::least_product` meets its contract. The loop keeps `Scanned`: the least of the first i products and its boat are known, and it keeps to 32 bits.
-- A turn looks at product i and keeps it where it is below the least so far.
-- It ends: the boats that are left fall by one.
use Prim.Native.Nat.{◌-◌}
use Rattle.scoring.proofs.ProductScan.{Scanned}
use Rattle.scoring.proofs.least_product.Given as goal

abbrev pub invariant-loop-i : goal.invariant-loop-i
invariant-loop-i l = Scanned l.products l.boats l.boat l.least l.i
