-- `listing::refused_listing` meets its contract.
use Rattle.text.proofs.Texts.{adds_to_empty}
use borrow.Author.Rules.{rules}
use Rattle.listing.proofs.refused_listing.Goals as goal

pub returns : goal.returns
returns c = search (rules, adds_to_empty)
