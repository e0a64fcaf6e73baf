-- `refusal_details::known_detail` meets its contract.
use mathlib.Core.Path.{◌∙◌}
use native.Mathlib.Omega.{arith}
use Rattle.files.proofs.Accepted.{book_accepted}
use Rattle.refusal_details.proofs.Refused.{book_first, sheet_first, sheet_columns_out}
use Rattle.refusal_details.proofs.Lines.{told_6, told_13, told_17, told_other}
use borrow.Author.Rules.{rules}
use Rattle.refusal_details.proofs.known_detail.Goals as goal

pub value_line-requires : goal.value_line-requires
value_line-requires c = book_first _ _ (c.requires ∙ c.in-6.is)

pub returns-in-6 : goal.returns-in-6
returns-in-6 c = told_6 _ _ c.requires c.in-6.is c.value_line.ensures

pub columns_line-requires : goal.columns_line-requires
columns_line-requires c =
    let p = sheet_first _ _ {n = 13} (omega arith) (c.requires ∙ c.in-13.is) in
    record { in_bounds = (book_accepted _ p.0).at_least; in_bounds_2 = sheet_columns_out _ _ p.1 }

pub returns-in-13 : goal.returns-in-13
returns-in-13 c = told_13 _ _ c.requires c.in-13.is c.columns_line.ensures

pub target_line-requires : goal.target_line-requires
target_line-requires c =
    let q = sheet_first _ _ {n = 17} (omega arith) (c.requires ∙ c.in-17.is) in
    record { book_value = q.0; sheet_value = q.1 }

pub returns-in-17 : goal.returns-in-17
returns-in-17 c = told_17 _ _ c.requires c.in-17.is c.target_line.ensures

pub returns-in_default : goal.returns-in_default
returns-in_default c = told_other _ _ c.requires (search rules) (search rules) (search rules) c.empty.ensures
