-- `factors::factors_of` meets its contract: `factors_at` is the return.
use borrow.Author.Rules.{rules}
use Rattle.factors.proofs.Factors.{factors_at}
use Rattle.factors.proofs.factors_of.Goals as goal

pub returns : goal.returns
returns c = search (rules, factors_at)
