-- `exported_cards::dofitrano_write_card` meets its contract.
use mathlib.Core.Path.{ap, ◌∙◌}
use Rattle.exported_types.specs.Replies.{card_reply_of}
use Rattle.method.specs.Problem.{plain_terms}
use Rattle.exported_cards.proofs.Promises.{filed_right}
use borrow.Author.Rules.{rules}
use Rattle.exported_cards.proofs.dofitrano_write_card.Goals as goal

pub returns : goal.returns
returns c = record { value = c.card_reply_to.ensures ∙ ap card_reply_of c.write_card-written.ensures.value; output_after = c.write_card-written.ensures.output_after; filing_right = filed_right plain_terms _ _ c.write_card-written.ensures.value c.write_card-written.ensures.output_after c.write_card-written.ensures.filing_right }
