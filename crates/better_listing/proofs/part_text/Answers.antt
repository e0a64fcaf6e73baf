-- `better_listing::part_text` meets its contract.
use Rattle.better_listing.proofs.Listings.{refused_text, card_text}
use borrow.Author.Rules.{rules}
use Rattle.better_listing.proofs.part_text.Goals as goal

pub returns-then-refusal-ne0 : goal.returns-then-refusal-ne0
returns-then-refusal-ne0 c = refused_text _ _ _ c.if-refusal-ne0.true c.refused_listing.ensures

pub judged_text-requires : goal.judged_text-requires
judged_text-requires c = c.requires c.if-refusal-ne0.false

pub returns : goal.returns
returns c = card_text _ _ _ c.if-refusal-ne0.false c.judged_text.ensures
