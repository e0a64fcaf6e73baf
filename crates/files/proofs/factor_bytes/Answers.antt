-- `files::factor_bytes` meets its contract: the letters decide.
use borrow.Author.Rules.{rules}
use Rattle.files.proofs.Fields.{with_factors, without_factors}
use Rattle.files.proofs.factor_bytes.Goals as goal

pub returns-then-ends_with : goal.returns-then-ends_with
returns-then-ends_with c = search (rules, with_factors)

pub returns : goal.returns
returns c = search (rules, without_factors)
