-- `card_truth::numbers_agree` meets its contract.
use Rattle.card_truth.proofs.Testing.{distance_differs, gap_differs, verdict_differs, numbers_tested}
use borrow.Author.Rules.{rules}
use Rattle.card_truth.proofs.numbers_agree.Goals as goal

pub returns-then-u64_at-a : goal.returns-then-u64_at-a
returns-then-u64_at-a c = search (rules, distance_differs)

pub returns-then-u64_at-a-2 : goal.returns-then-u64_at-a-2
returns-then-u64_at-a-2 c = search (rules, gap_differs)

pub returns-then-u16_at-verdict_number : goal.returns-then-u16_at-verdict_number
returns-then-u16_at-verdict_number c = search (rules, verdict_differs)

pub returns : goal.returns
returns c = search (rules, numbers_tested)
