-- `edition_text::edition_line` meets its contract.
use mathlib.Core.Path.{ap}
use Rattle.editions.specs.Rewritten.{rewritten_by}
use Rattle.edition_text.proofs.Telling.{refused_told, wrote_told}
use Rattle.edition_text.proofs.edition_line.Goals as goal

pub returns-in-Ok : goal.returns-in-Ok
returns-in-Ok c = wrote_told _ _ (ap rewritten_by c.in-Ok.is) c.empty.ensures c.with_pair.ensures.adds

pub returns-in-Err : goal.returns-in-Err
returns-in-Err c = refused_told _ (ap rewritten_by c.in-Err.is) c.empty-in-Err.ensures c.with_line.ensures.adds
