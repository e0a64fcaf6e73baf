-- `file_parts::value_in_range` meets its contract.
use borrow.Author.Rules.{rules}
use Rattle.file_parts.proofs.Range.{in_range_shifted}
use Rattle.file_parts.proofs.value_in_range.Goals as goal

pub returns : goal.returns
returns c = search (rules, in_range_shifted)
