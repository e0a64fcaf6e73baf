-- `scale_conversion::cell_outcome` meets its contract: a law of `Outcomes` for each case.
use mathlib.Core.Path.{◌∙◌}
use Rattle.scale_conversion.proofs.Outcomes.{unweighed_refused, net_given, weighing_given}
use Rattle.scale_conversion.proofs.cell_outcome.Goals as goal

pub returns-in-Unweighed : goal.returns-in-Unweighed
returns-in-Unweighed c = unweighed_refused c.args.s c.in-Unweighed.is

pub returns-in-Net : goal.returns-in-Net
returns-in-Net c = c.net_outcome.ensures ∙ net_given c.args.s c.in-Net.is

pub returns-in-Weighed : goal.returns-in-Weighed
returns-in-Weighed c = c.net_outcome-in-Weighed.ensures ∙ weighing_given c.args.s c.in-Weighed.is
