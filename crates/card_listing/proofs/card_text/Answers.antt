-- `card_listing::card_text` meets its contract.
use mathlib.Core.Path.{sym, ◌∙◌}
use Rattle.listing.proofs.Outcomes.{number_searched}
use lib.ListN.{replicate}
use Rattle.files.proofs.Numbers.{all_bytes_known}
use Rattle.card_listing.proofs.Cards.{check_listable, check_number, check_listed, listed_right}
use borrow.Author.Rules.{rules}
use Rattle.card_listing.proofs.card_text.Goals as goal

pub listing_of-requires : goal.listing_of-requires
listing_of-requires c = check_listable _ _ _ (replicate 256 0) c.check_card-outcome.ensures.value

pub returns : goal.returns
returns c = record { refusal_value = c.listing_of.ensures.0 ∙ sym (number_searched _) ∙ check_number _ _ _ (replicate 256 0) c.check_card-outcome.ensures.value; holds = check_listed _ _ _ (replicate 256 0) c.check_card-outcome.ensures.value c.check_card-outcome.ensures.shares_after c.listing_of.ensures.1; check_right = listed_right _ _ _ (all_bytes_known _ c.shared_slice_known-3-1.given) }
