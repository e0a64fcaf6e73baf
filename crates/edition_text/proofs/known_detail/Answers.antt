-- `edition_text::known_detail` meets its contract.
use Rattle.edition_text.proofs.Telling.{told_accepted}
use Rattle.edition_text.proofs.known_detail.Goals as goal

pub returns-in-Ok : goal.returns-in-Ok
returns-in-Ok c = rw c.in-Ok.is (told_accepted _ c.empty.ensures)
