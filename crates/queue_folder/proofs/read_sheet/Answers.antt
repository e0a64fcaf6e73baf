-- `queue_folder::read_sheet` meets its contract.
use Rattle.queue_folder.proofs.Reading.{read_behind}
use borrow.Author.Rules.{rules}
use Rattle.queue_folder.proofs.read_sheet.Goals as goal

pub returns : goal.returns
returns c = read_behind _ _ _ c.requires.1 c.read_named.ensures (search rules)
