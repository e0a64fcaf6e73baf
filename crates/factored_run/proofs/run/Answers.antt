-- `factored_run::run` meets its contract: the factors say which files it runs on.
use Rattle.std.specs.Prelude.{option_copied}
use borrow.Author.Rules.{rules}
use Rattle.method.specs.Calls.{terms}
use Rattle.factored_run.proofs.Factored.{whole, plain_run, plain_shares, lettered}
use Rattle.factored_run.proofs.run.Goals as goal

pub is_plain-requires : goal.is_plain-requires
is_plain-requires c = whole _ _ c.requires.sheet_value

pub returns-then-is_plain : goal.returns-then-is_plain
returns-then-is_plain c = record { value = plain_run _ _ c.requires.sheet_value c.is_plain.ensures (terms (option_copied c.args.table)) c.if-is_plain.true c.run.ensures.value; shares_after = plain_shares _ _ c.requires.sheet_value c.is_plain.ensures (terms (option_copied c.args.table)) c.if-is_plain.true _ c.run.ensures.shares_after }

pub derived_run-requires : goal.derived_run-requires
derived_run-requires c = record { sheet_value = c.requires.sheet_value; table_value = c.requires.table_value; sheet_value_2 = lettered _ _ c.requires.sheet_value c.is_plain.ensures c.if-is_plain.false; book_in_bounds = c.requires.book_in_bounds }
