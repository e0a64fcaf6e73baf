-- `exported_files::dofitrano_other_edition` meets its contract.
use mathlib.Core.Path.{ap, ◌∙◌}
use Rattle.exported_types.specs.Replies.{edition_reply_of}
use Rattle.exported_files.proofs.Promises.{edition_right}
use Rattle.exported_files.proofs.dofitrano_other_edition.Goals as goal

pub returns : goal.returns
returns c = record { value = c.edition_reply_to.ensures ∙ ap edition_reply_of c.other_edition-given.ensures.value; output_after = c.other_edition-given.ensures.output_after; edition_right = edition_right _ c.other_edition-given.ensures.value c.other_edition-given.ensures.output_after c.other_edition-given.ensures.edition_right }
