-- `lean_folder::report_of` meets its contract.
use Rattle.lean_folder.proofs.Folding.{some_report}
use borrow.Author.Rules.{rules}
use Rattle.lean_folder.proofs.report_of.Goals as goal

pub returns : goal.returns
returns c = some_report c.check_pairs-checked.ensures (rw c.number_of.ensures at c.lean_text.ensures.reports_checked)
