-- `test_tables::name` meets its contract.
use mathlib.Core.Path.{◌∙◌}
use Rattle.test_tables.proofs.Marks.{part_until}
use Rattle.test_tables.proofs.name.Goals as goal

pub returns : goal.returns
returns c = c.between.ensures ∙ part_until c.args.line.now 0 58 _ c.find.ensures.value c.find.ensures.lower_bound.1
