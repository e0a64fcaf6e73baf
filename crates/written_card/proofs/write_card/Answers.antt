-- `written_card::write_card` meets its contract: that of `write_card_with`, with nothing handed in.
use Rattle.written_card.proofs.write_card.Goals as goal

pub returns : goal.returns
returns c = record { value = c.write_card_with.ensures.value; output_after = c.write_card_with.ensures.output_after; filing_right = c.write_card_with.ensures.filing_right_with }
