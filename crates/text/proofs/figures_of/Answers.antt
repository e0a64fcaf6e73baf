-- `text::figures_of` meets its contract.
use borrow.Author.Rules.{rules}
use Rattle.text.proofs.Texts.{written_start, written_more, written_one, written_two, two_more, two_last}
use Rattle.text.proofs.figures_of.Goals as goal

pub loop-rest-init : goal.loop-rest-init
loop-rest-init c = search (rules, written_start)

pub overflow_sub-at : goal.overflow_sub-at
overflow_sub-at c = search (rules, two_more)

pub loop-rest-preserved : goal.loop-rest-preserved
loop-rest-preserved c = search (rules, written_more)

pub returns-then-last-lt10 : goal.returns-then-last-lt10
returns-then-last-lt10 c = search (rules, written_one)

pub overflow_sub-at-2 : goal.overflow_sub-at-2
overflow_sub-at-2 c = search (rules, two_last)

pub returns : goal.returns
returns c = search (rules, written_two)
