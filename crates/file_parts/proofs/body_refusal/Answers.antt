-- `file_parts::body_refusal` meets its contract: a law of `Refusal` for each return.
use borrow.Author.Rules.{rules}
use Rattle.files.proofs.Refusal.{back_wrong, back_before, all_in, some_out}
use Rattle.file_parts.proofs.body_refusal.Goals as goal

pub returns-then-own-back : goal.returns-then-own-back
returns-then-own-back c = λ said. search (rules, back_wrong)

pub returns-then-room-own : goal.returns-then-room-own
returns-then-room-own c = λ said. search (rules, back_before)

pub returns-then-values_in_range : goal.returns-then-values_in_range
returns-then-values_in_range c = λ said. search (rules, all_in)

pub returns-else-values_in_range : goal.returns-else-values_in_range
returns-else-values_in_range c = λ said. search (rules, some_out)
