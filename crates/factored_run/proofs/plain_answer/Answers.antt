-- `factored_run::plain_answer` meets its contract.
use borrow.Author.Rules.{rules}
use Rattle.factored_run.proofs.plain_answer.Goals as goal

pub answer_of-requires : goal.answer_of-requires
answer_of-requires c = record { sheet_value = c.requires.sheet_value; table_value = c.requires.table_value; layout_value = c.layout_of-layout.ensures; fact = c.requires.fact; shares_value = c.requires.shares_value }
