-- `iteration::layout_of` meets its contract.
use Rattle.iteration.specs.States.{file_layout}
use Rattle.iteration.proofs.States.{book_fits, sheet_fits}
use Rattle.iteration.proofs.layout_of.Goals as goal

pub boats-requires : goal.boats-requires
boats-requires c = (book_fits _ _ c.requires).at_least

pub columns-requires : goal.columns-requires
columns-requires c = (book_fits _ _ c.requires).at_least

pub book_body-requires : goal.book_body-requires
book_body-requires c = (book_fits _ _ c.requires).whole

pub sheet_body-requires : goal.sheet_body-requires
sheet_body-requires c = (sheet_fits _ _ c.requires).whole

pub returns : goal.returns
unfolding file_layout
returns c = rw (c.boats.ensures, c.columns.ensures.value, c.book_body.ensures, c.sheet_body.ensures)
