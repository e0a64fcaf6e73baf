-- `listing::outcome_listing` meets its contract.
use Rattle.listing.proofs.Outcomes.{number_listed, result_listed, numbered_files}
use Rattle.listing.proofs.outcome_listing.Goals as goal

pub answer_listing-requires : goal.answer_listing-requires
answer_listing-requires c = numbered_files _ _ _ c.in-Ok.is c.requires

pub returns-in-Err : goal.returns-in-Err
returns-in-Err c = number_listed _ _ _ _ c.in-Err.is c.refused_listing.ensures

pub returns-in-Ok : goal.returns-in-Ok
returns-in-Ok c = result_listed _ _ _ _ c.in-Ok.is c.answer_listing.ensures
