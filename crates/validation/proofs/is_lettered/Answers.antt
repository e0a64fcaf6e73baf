-- `validation::is_lettered` meets its contract: the letters stand at the end of the trailer.
use borrow.Author.Rules.{rules}
use Rattle.files.proofs.Fields.{first_letters, second_letters}
use Rattle.validation.proofs.is_lettered.Goals as goal

pub returns-then-ends_with : goal.returns-then-ends_with
returns-then-ends_with c = search (rules, first_letters)

pub returns : goal.returns
returns c = search (rules, second_letters)
