-- `verdicts::is_far` meets its contract.
use mathlib.Core.Path.{◌∙◌}
use borrow.Author.Tests.{lt-ltb, le-ltb}
use borrow.Author.Rules.{rules}
use Rattle.method.specs.Answers.{is_beyond}
use Rattle.verdicts.proofs.is_far.Goals as goal

pub returns-then-e-g : goal.returns-then-e-g
unfolding is_beyond
returns-then-e-g c = simp (le-ltb _ _ c.if-e-g.true)

pub returns : goal.returns
unfolding is_beyond
returns c = c.product_below.ensures ∙ simp (lt-ltb _ _ c.if-e-g.false)
