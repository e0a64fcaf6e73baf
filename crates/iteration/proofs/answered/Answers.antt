-- `iteration::answered` meets its contract.
use Rattle.iteration.proofs.Measuring.{judgeable, answer_is}
use borrow.Author.Rules.{rules}
use Rattle.iteration.proofs.answered.Goals as goal

pub judge-verdict-requires : goal.judge-verdict-requires
judge-verdict-requires c = judgeable c.requires c.gap_of-g.ensures c.tolerance.ensures

pub returns : goal.returns
returns c = answer_is c.requires c.gap_of-g.ensures c.tolerance.ensures c.args.test c.args.steps c.judge-verdict.ensures
