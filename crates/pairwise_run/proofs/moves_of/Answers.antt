-- `pairwise_run::moves_of` meets its contract: the factors say which files it goes by.
use Rattle.factored_run.proofs.Factored.{whole, lettered}
use Rattle.pairwise_run.proofs.Factors.{plain_moves}
use Rattle.pairwise_run.proofs.moves_of.Goals as goal

pub is_plain-requires : goal.is_plain-requires
is_plain-requires c = whole _ _ c.requires.sheet_value

pub returns-then-is_plain : goal.returns-then-is_plain
returns-then-is_plain c = plain_moves _ _ c.requires.sheet_value c.is_plain.ensures c.if-is_plain.true _ _ _ c.plain_moves.ensures

pub derived_moves-requires : goal.derived_moves-requires
derived_moves-requires c = record { sheet_value = c.requires.sheet_value; sheet_value_2 = lettered _ _ c.requires.sheet_value c.is_plain.ensures c.if-is_plain.false; shares_value = c.requires.shares_value }
