-- `work_folder::file_found` meets its contract.
use mathlib.Core.Path.{sym, ap, ◌∙◌}
use Rattle.refusals.specs.Numbers.{refusal_number}
use Rattle.worked_listing.proofs.Working.{work_files}
use Rattle.work_folder.proofs.file_found.Goals as goal

pub tell_detail-requires : goal.tell_detail-requires
tell_detail-requires c = work_files _ _ _ (c.number.ensures ∙ sym (ap refusal_number c.in-Err.is) ∙ c.worked_text-filing.ensures.refusal_value)
