-- `edition_text::edition_detail` meets its contract.
use Rattle.edition_text.proofs.edition_detail.Goals as goal

pub returns : goal.returns
returns c = rw (← c.refusal_in.ensures) c.known_detail.ensures
