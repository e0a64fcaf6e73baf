-- `card_input::counts_agree` meets its contract.
use Rattle.card_input.proofs.Reading.{counts_differ, counts_same}
use borrow.Author.Rules.{rules}
use Rattle.card_input.proofs.counts_agree.Goals as goal

pub returns-then-u16_at-boats : goal.returns-then-u16_at-boats
returns-then-u16_at-boats c = search (rules, counts_differ)

pub returns : goal.returns
returns c = search (rules, counts_same)
