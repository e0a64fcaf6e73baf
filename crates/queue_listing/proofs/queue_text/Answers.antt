-- `queue_listing::queue_text` meets its contract.
use mathlib.Core.Path.{refl}
use Rattle.refusals.proofs.Numbers.{positive}
use Rattle.queue_listing.proofs.Listing.{listed_right, number_is, accepted_is, accepted_all, refused_listed, lines_listed}
use Rattle.queue_listing.proofs.queue_text.Goals as goal

pub lines-text-requires : goal.lines-text-requires
lines-text-requires c = (c.in-Ok.ensures.count_few, c.in-Ok.ensures.records_long)

pub returns-in-Ok : goal.returns-in-Ok
returns-in-Ok c =
    record {
      refusal_value = number_is c.plan_of-plan.ensures c.in-Ok.ensures;
      accepted_value = accepted_all c.plan_of-plan.ensures c.in-Ok.ensures refl refl;
      holds = lines_listed c.plan_of-plan.ensures c.in-Ok.ensures refl c.lines-text.ensures;
      listed_right = listed_right _ _ _ _;
    }

pub returns-in-Err : goal.returns-in-Err
returns-in-Err c =
    record {
      refusal_value = number_is c.plan_of-plan.ensures c.in-Err.ensures;
      accepted_value = accepted_is c.plan_of-plan.ensures c.in-Err.ensures;
      holds = refused_listed c.plan_of-plan.ensures c.in-Err.ensures (positive _) c.reason_listing-text.ensures;
      listed_right = listed_right _ _ _ _;
    }
