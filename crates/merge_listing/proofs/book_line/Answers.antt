-- `merge_listing::book_line` meets its contract.
use Rattle.files.proofs.Accepted.{book_accepted}
use Rattle.merge_listing.proofs.Listings.{book_listed}
use borrow.Author.Rules.{rules}
use Rattle.merge_listing.proofs.book_line.Goals as goal

pub boats-boats-requires : goal.boats-boats-requires
boats-boats-requires c = (book_accepted _ c.requires).at_least

pub columns-columns-requires : goal.columns-columns-requires
columns-columns-requires c = (book_accepted _ c.requires).at_least

pub returns : goal.returns
returns c = search (rules, book_listed)
