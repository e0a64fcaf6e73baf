-- `listing::listing_of` meets its contract.
use Rattle.listing.proofs.Outcomes.{refusal_listed, outcome_listed, listable_files}
use Rattle.listing.proofs.listing_of.Goals as goal

pub answer_listing-requires : goal.answer_listing-requires
answer_listing-requires c = listable_files _ _ _ c.in-Ok.is c.requires

pub returns-in-Err : goal.returns-in-Err
returns-in-Err c = refusal_listed _ _ _ _ c.in-Err.is c.reason_listing.ensures

pub returns-in-Ok : goal.returns-in-Ok
returns-in-Ok c = outcome_listed _ _ _ _ c.in-Ok.is c.answer_listing.ensures
