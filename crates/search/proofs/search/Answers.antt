-- `search::search` meets its contract: that of `search_with`, with nothing handed in.
use borrow.Author.Rules.{rules}
use Rattle.search.proofs.search.Goals as goal

pub returns : goal.returns
returns c = record { value = c.search_with.ensures.value; shares_after = c.search_with.ensures.shares_after; outcome_right = c.search_with.ensures.outcome_right_with }
