-- `factors::is_plain` meets its contract: the letters say whether there are factors to look at.
use mathlib.Core.Path.{ap, ◌∙◌}
use borrow.Author.Rules.{rules}
use Rattle.factors.specs.Factors.{all_ones}
use Rattle.factors.proofs.Factors.{lettered_2, plain_ones}
use Rattle.factors.proofs.is_plain.Goals as goal

pub factors_of-requires : goal.factors_of-requires
factors_of-requires c = search (rules, lettered_2)

pub returns-then-ends_with : goal.returns-then-ends_with
returns-then-ends_with c = c.are_ones.ensures ∙ ap all_ones c.factors_of.ensures

pub returns : goal.returns
returns c = search (rules, plain_ones)
