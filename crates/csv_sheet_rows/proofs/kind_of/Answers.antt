-- `csv_sheet_rows::kind_of` meets its contract: a law for each return.
use borrow.Author.Rules.{rules}
use Rattle.csv_sheet_rows.proofs.RowKinds.{kind_unit, kind_factor, kind_steps, kind_tolerance, kind_each, kind_displacement, kind_length, kind_hull}
use Rattle.csv_sheet_rows.proofs.kind_of.Goals as goal

pub returns-then-is_same : goal.returns-then-is_same
returns-then-is_same c = search (rules, kind_unit)

pub returns-then-is_same-2 : goal.returns-then-is_same-2
returns-then-is_same-2 c = search (rules, kind_factor)

pub returns-then-is_same-3 : goal.returns-then-is_same-3
returns-then-is_same-3 c = search (rules, kind_steps)

pub returns-then-is_same-4 : goal.returns-then-is_same-4
returns-then-is_same-4 c = search (rules, kind_tolerance)

pub returns-then-is_same-5 : goal.returns-then-is_same-5
returns-then-is_same-5 c = search (rules, kind_each)

pub returns-then-is_same-6 : goal.returns-then-is_same-6
returns-then-is_same-6 c = search (rules, kind_displacement)

pub returns-then-is_same-7 : goal.returns-then-is_same-7
returns-then-is_same-7 c = search (rules, kind_length)

pub returns : goal.returns
returns c = search (rules, kind_hull)
