-- `exported_types::shortfall_of` meets its contract.
use Rattle.exported_types.specs.Replies.{shortfall_of}
use borrow.Author.Rules.{rules}
use Rattle.exported_types.proofs.shortfall_of.Goals as goal

pub returns-in-Within : goal.returns-in-Within
unfolding shortfall_of
returns-in-Within c = search rules

pub returns-in-Beyond : goal.returns-in-Beyond
unfolding shortfall_of
returns-in-Beyond c = search rules

pub returns-in-Spent : goal.returns-in-Spent
unfolding shortfall_of
returns-in-Spent c = search rules
