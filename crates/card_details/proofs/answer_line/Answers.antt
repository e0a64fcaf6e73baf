-- `card_details::answer_line` meets its contract.
use Rattle.card_details.proofs.Lines.{distance_told, gap_told, other_verdict, spent_told}
use borrow.Author.Rules.{rules}
use Rattle.card_details.proofs.answer_line.Goals as goal

pub returns-then-e-a : goal.returns-then-e-a
returns-then-e-a c = search (rules, distance_told)

pub returns-then-g-a : goal.returns-then-g-a
returns-then-g-a c = search (rules, gap_told)

pub returns-then-v-verdict : goal.returns-then-v-verdict
returns-then-v-verdict c = search (rules, other_verdict)

pub returns : goal.returns
returns c = search (rules, spent_told)
