-- `search_listing::search_listing` meets its contract.
use Rattle.search_listing.proofs.Searches.{search_listable, search_number, search_listed, listed_right}
use mathlib.Core.Path.{sym, ◌∙◌}
use Rattle.listing.proofs.Outcomes.{number_searched}
use lib.ListN.{replicate}
use borrow.Author.Rules.{rules}
use Rattle.search_listing.proofs.search_listing.Goals as goal

pub listing_of-requires : goal.listing_of-requires
listing_of-requires c = search_listable _ _ (replicate 256 0) c.search-outcome.ensures.value

pub returns : goal.returns
returns c = record { refusal_value = c.listing_of.ensures.0 ∙ sym (number_searched _) ∙ search_number _ _ (replicate 256 0) c.search-outcome.ensures.value; holds = search_listed _ _ (replicate 256 0) c.search-outcome.ensures.value c.search-outcome.ensures.shares_after c.listing_of.ensures.1; outcome_right = listed_right _ _ }
