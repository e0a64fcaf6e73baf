-- `better_folder::file_found` meets its contract.
use Rattle.refusal_output.proofs.Numbers.{choice_files}
use Rattle.better_card.proofs.Wrong.{wrong_refused}
use borrow.Author.Rules.{rules}
use Rattle.better_folder.proofs.file_found.Goals as goal

pub tell_detail-requires : goal.tell_detail-requires
tell_detail-requires c = search (rules, choice_files)

pub tell_card-requires : goal.tell_card-requires
tell_card-requires c = search (rules, wrong_refused)
