-- `card_input::steps_fit` meets its contract.
use Rattle.card_input.proofs.Reading.{steps_out, steps_tested}
use borrow.Author.Rules.{rules}
use Rattle.card_input.proofs.steps_fit.Goals as goal

pub returns-then-not-is_between : goal.returns-then-not-is_between
returns-then-not-is_between c = search (rules, steps_out)

pub returns : goal.returns
returns c = search (rules, steps_tested)
