-- `exported_types::floor_of` meets its contract.
use mathlib.Core.Path.{sym, ap, ◌∙◌}
use Rattle.exported_types.specs.Replies.{floor_of}
use borrow.Author.Rules.{rules}
use Rattle.exported_types.proofs.floor_of.Goals as goal

pub returns-in-Within : goal.returns-in-Within
unfolding floor_of
returns-in-Within c = cc

pub returns-in-Beyond : goal.returns-in-Beyond
unfolding floor_of
returns-in-Beyond c = search rules ∙ ap floor_of (sym c.in-Beyond.is)

pub returns-in-Spent : goal.returns-in-Spent
unfolding floor_of
returns-in-Spent c = cc
