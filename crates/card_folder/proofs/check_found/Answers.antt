-- `card_folder::check_found` meets its contract.
use mathlib.Core.Path.{sym, ap, ◌∙◌}
use Rattle.refusals.specs.Numbers.{refusal_number}
use Rattle.refusal_output.proofs.Numbers.{check_files}
use Rattle.card_folder.proofs.check_found.Goals as goal

pub tell_detail-requires : goal.tell_detail-requires
tell_detail-requires c = check_files _ _ _ (c.number-n.ensures ∙ sym (ap refusal_number c.in-Err.is) ∙ c.card_text-listed.ensures.refusal_value)

pub tell_card-requires : goal.tell_card-requires
tell_card-requires c = sym (c.number-n.ensures ∙ sym (ap refusal_number c.in-Err.is) ∙ c.card_text-listed.ensures.refusal_value)
