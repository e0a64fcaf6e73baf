-- `card_listing::judged_text` meets its contract.
use lib.ListN.{replicate}
use Rattle.card_listing.proofs.Cards.{check_listable, check_listed}
use borrow.Author.Rules.{rules}
use Rattle.card_listing.proofs.judged_text.Goals as goal

pub listing_of-listed-requires : goal.listing_of-listed-requires
listing_of-listed-requires c = check_listable _ _ _ (replicate 256 0) c.judge_card-outcome.ensures.value

pub returns : goal.returns
returns c = check_listed _ _ _ (replicate 256 0) c.judge_card-outcome.ensures.value c.judge_card-outcome.ensures.shares_after c.listing_of-listed.ensures.1
