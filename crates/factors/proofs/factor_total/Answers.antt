-- `factors::factor_total` meets its contract: the letters say whether there are factors to add.
use mathlib.Core.Path.{ap, ◌∙◌}
use borrow.Author.Rules.{rules}
use Rattle.frank_wolfe.specs.Vectors.{sum}
use Rattle.factors.proofs.Factors.{few_factors, lettered_2, plain_total}
use Rattle.factors.proofs.factor_total.Goals as goal

pub factors_of-requires : goal.factors_of-requires
factors_of-requires c = search (rules, lettered_2)

pub total-requires : goal.total-requires
total-requires c = search (rules, few_factors)

pub returns-then-ends_with : goal.returns-then-ends_with
returns-then-ends_with c = c.total.ensures ∙ ap sum c.factors_of.ensures

pub returns : goal.returns
returns c = search (rules, plain_total)
