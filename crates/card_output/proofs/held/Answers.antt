-- `card_output::held` meets its contract.
use borrow.Author.Rules.{rules}
use Rattle.card_output.proofs.Placing.{held_none, held_some}
use Rattle.card_output.proofs.held.Goals as goal

pub returns-then-share-eq0 : goal.returns-then-share-eq0
returns-then-share-eq0 c = record { value = search (rules, held_none); upper_bound = search rules }

pub returns-else-share-eq0 : goal.returns-else-share-eq0
returns-else-share-eq0 c = record { value = search (rules, held_some); upper_bound = search rules }
