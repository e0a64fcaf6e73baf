-- `plain_run::clear` meets its contract: the first slots are the part that is lent.
use lib.Seq.{length-take-le}
use Rattle.plain_run.proofs.clear.Goals as goal

pub returns : goal.returns
returns c = rw (c.fill.ensures.after (λ y e. e), length-take-le c.args.count c.args.list.now c.requires)
