-- `card_input::pair_count` meets its contract.
use Rattle.card_input.proofs.Reading.{count_at}
use borrow.Author.Rules.{rules}
use Rattle.card_input.proofs.pair_count.Goals as goal

pub returns : goal.returns
returns c = record { value = search (rules, count_at); upper_bound = search rules }
