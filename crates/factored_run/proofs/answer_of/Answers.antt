-- `factored_run::answer_of` meets its contract: the factors say which files it goes by.
use Rattle.std.specs.Prelude.{option_copied}
use borrow.Author.Rules.{rules}
use Rattle.method.specs.Calls.{terms}
use Rattle.factored_run.proofs.Factored.{whole, plain_answer, lettered}
use Rattle.factored_run.proofs.answer_of.Goals as goal

pub is_plain-requires : goal.is_plain-requires
is_plain-requires c = whole _ _ c.requires.sheet_value

pub returns-then-is_plain : goal.returns-then-is_plain
returns-then-is_plain c = plain_answer _ _ c.requires.sheet_value c.is_plain.ensures (terms (option_copied c.args.table)) c.if-is_plain.true _ _ _ c.plain_answer.ensures

pub derived_answer-requires : goal.derived_answer-requires
derived_answer-requires c = record { sheet_value = c.requires.sheet_value; table_value = c.requires.table_value; sheet_value_2 = lettered _ _ c.requires.sheet_value c.is_plain.ensures c.if-is_plain.false; fact = c.requires.fact; shares_value = c.requires.shares_value }
