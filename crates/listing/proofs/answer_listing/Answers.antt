-- `listing::answer_listing` meets its contract.
use Rattle.listing.proofs.Outcomes.{book_length, sheet_length, few_boats, answer_listed}
use borrow.Author.Rules.{rules}
use Rattle.listing.proofs.answer_listing.Goals as goal

pub boats-boats-requires : goal.boats-boats-requires
boats-boats-requires c = book_length _ _ c.requires

pub columns-requires : goal.columns-requires
columns-requires c = book_length _ _ c.requires

pub tolerance-requires : goal.tolerance-requires
tolerance-requires c = sheet_length _ _ c.requires

pub steps-requires : goal.steps-requires
steps-requires c = sheet_length _ _ c.requires

pub with_boats-requires : goal.with_boats-requires
with_boats-requires c = (rw c.boats-boats.ensures (few_boats _ _ c.requires), c.head-begun.ensures.len_bound)

pub returns : goal.returns
returns c =
    let x = c.args in
    answer_listed _ _ x.a x.shares c.boats-boats.ensures c.columns.ensures.value c.tolerance.ensures
    c.steps.ensures c.head-begun.ensures.holds c.with_boats.ensures
