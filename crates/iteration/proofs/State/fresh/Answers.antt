-- `iteration::State::fresh` meets its contract.
use mir.Syntax.{w64}
use mir.Facts.{to_z-of_z}
use borrow.Author.Rules.{rules}
use Rattle.iteration.proofs.States.{book_fits, fresh_holds}
use Rattle.iteration.proofs.State.fresh.Goals as goal

pub least_product_of-first-requires : goal.least_product_of-first-requires
least_product_of-first-requires c = record { sheet_value = c.requires.sheet_value; layout_value = c.requires.layout_value; boat_bound = (book_fits _ _ c.requires.sheet_value).some_boats }

pub returns : goal.returns
returns c = λ a. fresh_holds _ _ c.requires.sheet_value a c.least_product_of-first.ensures (to_z-of_z {w = w64} (search rules))
