-- `edition_text::first_other` meets its contract: `PassedOnes` is the loop's invariant.
use Rattle.edition_text.proofs.Telling.{ones_start, ones_more, ones_differ, ones_end}
use borrow.Author.Rules.{rules}
use Rattle.edition_text.proofs.first_other.Goals as goal

pub loop-i-init : goal.loop-i-init
loop-i-init c = ones_start

pub returns-then-factor-ne1 : goal.returns-then-factor-ne1
returns-then-factor-ne1 c = search (rules, ones_differ)

pub loop-i-preserved : goal.loop-i-preserved
loop-i-preserved c = search (rules, ones_more)

pub returns : goal.returns
returns c = search (rules, ones_end)
