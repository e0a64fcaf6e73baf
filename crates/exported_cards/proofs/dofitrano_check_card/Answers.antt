-- `exported_cards::dofitrano_check_card` meets its contract.
use mathlib.Core.Path.{ap, ◌∙◌}
use Rattle.exported_types.specs.Replies.{reply_of}
use Rattle.method.specs.Problem.{plain_terms}
use Rattle.exported_cards.proofs.Promises.{checked_right}
use borrow.Author.Rules.{rules}
use Rattle.exported_cards.proofs.dofitrano_check_card.Goals as goal

pub returns : goal.returns
returns c = record { value = c.reply_to.ensures ∙ ap reply_of c.check_card-found.ensures.value; shares_after = c.check_card-found.ensures.shares_after; check_right = checked_right plain_terms _ _ _ c.check_card-found.ensures.value c.check_card-found.ensures.shares_after c.check_card-found.ensures.check_right }
