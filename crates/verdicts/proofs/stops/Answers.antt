-- `verdicts::stops` meets its contract.
use borrow.Author.Rules.{rules}
use Rattle.method.specs.Answers.{stops}
use Rattle.verdicts.proofs.stops.Goals as goal

pub returns-in-Spent : goal.returns-in-Spent
unfolding stops
returns-in-Spent c = cc

pub returns-in-Within : goal.returns-in-Within
unfolding stops
returns-in-Within c = search rules

pub returns-in-Beyond : goal.returns-in-Beyond
unfolding stops
returns-in-Beyond c = search rules
