-- `exported_cards::dofitrano_work_over` meets its contract.
use mathlib.Core.Path.{ap, ◌∙◌}
use Rattle.exported_types.specs.Replies.{card_reply_of}
use Rattle.pairwise.specs.Call.{set_terms}
use Rattle.exported_cards.proofs.Promises.{worked_right}
use borrow.Author.Rules.{rules}
use Rattle.exported_cards.proofs.dofitrano_work_over.Goals as goal

pub returns : goal.returns
returns c = record { value = c.card_reply_to.ensures ∙ ap card_reply_of c.work_over-written.ensures.value; output_after = c.work_over-written.ensures.output_after; working_right = worked_right (set_terms c.args.released) _ _ _ c.work_over-written.ensures.value c.work_over-written.ensures.output_after c.work_over-written.ensures.working_right }
