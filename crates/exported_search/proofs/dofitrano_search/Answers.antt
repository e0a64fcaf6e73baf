-- `exported_search::dofitrano_search` meets its contract.
use mathlib.Core.Path.{ap, ◌∙◌}
use Rattle.exported_types.specs.Replies.{reply_of}
use Rattle.method.specs.Problem.{plain_terms}
use Rattle.exported_search.proofs.Promises.{searched_right}
use borrow.Author.Rules.{rules}
use Rattle.exported_search.proofs.dofitrano_search.Goals as goal

pub returns : goal.returns
returns c = record { value = c.reply_to.ensures ∙ ap reply_of c.search-found.ensures.value; shares_after = c.search-found.ensures.shares_after; outcome_right = searched_right plain_terms _ _ c.search-found.ensures.value c.search-found.ensures.shares_after c.search-found.ensures.outcome_right }
