-- `csv_sheet_rows::is_left_out` meets its contract: a law for each return.
use borrow.Author.Rules.{rules}
use Rattle.csv_sheet_rows.proofs.Findings.{left_none, left_number, left_other}
use Rattle.csv_sheet_rows.proofs.is_left_out.Goals as goal

pub returns-then-factors-eq0 : goal.returns-then-factors-eq0
returns-then-factors-eq0 c = search (rules, left_none)

pub returns-then-is_number : goal.returns-then-is_number
returns-then-is_number c = search (rules, left_number)

pub returns : goal.returns
returns c = search (rules, left_other)
