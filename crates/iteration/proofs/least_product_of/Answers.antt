-- `iteration::least_product_of` meets its contract.
use Rattle.iteration.proofs.Steps.{scan_asks, least_right}
use Rattle.iteration.proofs.States.{book_fits}
use borrow.Author.Rules.{rules}
use Rattle.iteration.proofs.least_product_of.Goals as goal

pub products_of-requires : goal.products_of-requires
products_of-requires c = record { sheet_value = c.requires.sheet_value; layout_value = c.requires.layout_value; boat_bound = c.requires.boat_bound; book_in_bounds = (book_fits _ _ c.requires.sheet_value).most_boats }

pub least_product-requires : goal.least_product-requires
least_product-requires c = scan_asks _ _ c.requires.sheet_value c.requires.layout_value c.requires.boat_bound _ c.products_of.ensures.to_after

pub returns : goal.returns
returns c = least_right _ _ c.requires.sheet_value c.requires.layout_value c.requires.boat_bound _ c.products_of.ensures.to_after c.least_product.ensures
