-- `factors::are_ones` meets its contract: `Ones` is the loop's invariant.
use borrow.Author.Rules.{rules}
use Rattle.factors.proofs.Factors.{ones_start, ones_more, ones_differ, ones_end}
use Rattle.factors.proofs.are_ones.Goals as goal

pub loop-factor-init : goal.loop-factor-init
loop-factor-init c = ones_start

pub returns-then-factor-ne1 : goal.returns-then-factor-ne1
returns-then-factor-ne1 c = search (rules, ones_differ)

pub loop-factor-preserved : goal.loop-factor-preserved
loop-factor-preserved c = search (rules, ones_more)

pub returns : goal.returns
returns c = search (rules, ones_end)
