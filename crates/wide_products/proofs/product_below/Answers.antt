-- `wide_products::product_below` meets its contract.
use borrow.Author.Rules.{rules}
use Rattle.wide_products.proofs.product_below.Goals as goal

pub returns : goal.returns
returns c = simp (c.below.ensures, c.product-2.ensures, c.product.ensures)
