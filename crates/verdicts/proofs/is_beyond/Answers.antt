-- `verdicts::is_beyond` meets its contract.
use mathlib.Core.Path.{sym, ◌∙◌}
use borrow.Author.Tests.{le-ltb}
use borrow.Author.Rules.{rules}
use Rattle.method.specs.Answers.{is_beyond}
use Rattle.method.proofs.Verdicts.{wherever_former}
use Rattle.verdicts.proofs.is_beyond.Goals as goal

-- the test holds, by theorem also where it is the sharper
pub returns-then-limit-g : goal.returns-then-limit-g
returns-then-limit-g c = sym (wherever_former c.args.test c.args.limit c.args.e c.args.g c.if-limit-g.true)

pub returns-in-Former : goal.returns-in-Former
unfolding is_beyond
returns-in-Former c = simp (c.in-Former.is, le-ltb _ _ c.if-limit-g.false)

pub returns-in-Sharper : goal.returns-in-Sharper
returns-in-Sharper c = c.is_far.ensures ∙ simp c.in-Sharper.is
