-- `csv_sheet_rows::kind_finding` meets its contract: a law for each return.
use borrow.Author.Rules.{rules}
use Rattle.csv_sheet_rows.proofs.Findings.{count_few, row_blank, row_again, row_nameless, row_numbers}
use Rattle.csv_sheet_rows.proofs.kind_finding.Goals as goal

pub returns-then-eq : goal.returns-then-eq
returns-then-eq c = search (rules, row_blank)

pub returns-then-row_of-ne0 : goal.returns-then-row_of-ne0
returns-then-row_of-ne0 c = search (rules, row_again)

pub returns-then-size_at-eq0 : goal.returns-then-size_at-eq0
returns-then-size_at-eq0 c = search (rules, row_nameless)

pub numbers_finding-requires : goal.numbers_finding-requires
numbers_finding-requires c = search (rules, count_few)

pub returns : goal.returns
returns c = search (rules, row_numbers)
