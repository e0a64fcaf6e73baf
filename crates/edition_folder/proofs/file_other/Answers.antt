-- `edition_folder::file_other` meets its contract.
use Rattle.edition_folder.proofs.Numbers.{number_known}
use borrow.Author.Rules.{rules}
use Rattle.edition_folder.proofs.file_other.Goals as goal

pub known_detail-requires : goal.known_detail-requires
known_detail-requires c = number_known c.in-Err.is c.other_edition-given.ensures.edition_right (search rules)
