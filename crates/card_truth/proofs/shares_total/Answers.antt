-- `card_truth::shares_total` meets its contract.
use Rattle.card_truth.proofs.Testing.{boats_many, total_tested}
use borrow.Author.Rules.{rules}
use Rattle.card_truth.proofs.shares_total.Goals as goal

pub returns-then-t-pair_count : goal.returns-then-t-pair_count
returns-then-t-pair_count c = search (rules, boats_many)

pub returns : goal.returns
returns c = search (rules, total_tested)
