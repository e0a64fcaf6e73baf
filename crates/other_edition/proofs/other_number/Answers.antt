-- `other_edition::other_number` meets its contract.
use Rattle.other_edition.proofs.Putting.{number_1, number_2}
use borrow.Author.Rules.{rules}
use Rattle.other_edition.proofs.other_number.Goals as goal

pub returns-then-ends_with : goal.returns-then-ends_with
returns-then-ends_with c = search (rules, number_1)

pub returns : goal.returns
returns c = search (rules, number_2)
