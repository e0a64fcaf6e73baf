-- `test_tables::line` meets its contract.
use mathlib.Core.Path.{◌∙◌}
use Rattle.test_tables.proofs.Marks.{part_until}
use Rattle.test_tables.proofs.line.Goals as goal

pub returns : goal.returns
returns c = c.between.ensures ∙ part_until c.args.text.now c.args.at 10 _ c.find.ensures.value c.find.ensures.lower_bound.1
