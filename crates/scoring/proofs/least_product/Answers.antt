-- `scoring::least_product` meets its contract. The loop keeps `Scanned`: the least of the first i products and its boat are known, and it keeps to 32 bits.
-- A turn looks at product i and keeps it where it is below the least so far.
-- It ends: the boats that are left fall by one.
use mir.Facts.{to_z-of_z}
use native.Mathlib.Omega.{arith}
use Rattle.scoring.proofs.ProductScan.{scanned_start, scanned_better, scanned_same, scanned_end, least_fits}
use Rattle.scoring.proofs.least_product.Goals.{then-product-least, else-product-least}
use Rattle.scoring.proofs.least_product.Goals as goal

pub bounds-products-0 : goal.bounds-products-0
bounds-products-0 c = omega (arith, c.requires.0, c.requires.1.long)

pub loop-i-init : goal.loop-i-init
loop-i-init c = scanned_start c.requires.1 c.requires.0

pub bounds-products-i : goal.bounds-products-i
bounds-products-i c = omega (arith, c.loop-i-test.true, c.requires.1.long)

pub loop-i-preserved : goal.loop-i-preserved
loop-i-preserved c =
    let d = c.loop-i.invariant in
    let h = c.loop-i-test.true in
    elim c.if-product-least.branch [
      | then-product-least w ↦ rw (w.boat-is, w.least-is) (scanned_better c.requires.1 d h w.if-product-least.true)
      | else-product-least w ↦ rw (w.boat-is, w.least-is) (scanned_same c.requires.1 d h w.if-product-least.false)
    ]

pub overflow_cast-result : goal.overflow_cast-result
overflow_cast-result c = least_fits c.requires.1 c.loop-i.invariant

pub returns : goal.returns
returns c = scanned_end c.requires.1 c.loop-i.invariant c.loop-i-test.false (to_z-of_z (overflow_cast-result c))
