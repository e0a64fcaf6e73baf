-- `exported_types::edition_reply_of` meets its contract.
use mathlib.Core.Path.{ap}
use Rattle.editions.specs.Rewritten.{rewritten_by}
use Rattle.exported_types.proofs.Replying.{edition_refused, edition_wrote}
use Rattle.exported_types.proofs.edition_reply_of.Goals as goal

pub returns-in-Err : goal.returns-in-Err
returns-in-Err c = edition_refused (ap rewritten_by c.in-Err.is)

pub returns-in-Ok : goal.returns-in-Ok
returns-in-Ok c = edition_wrote (ap rewritten_by c.in-Ok.is)
