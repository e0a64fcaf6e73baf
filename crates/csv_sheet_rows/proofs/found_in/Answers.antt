-- `csv_sheet_rows::found_in` meets its contract: a law for each return.
use borrow.Author.Rules.{rules}
use Rattle.csv_sheet_rows.proofs.Findings.{found_made}
use Rattle.csv_sheet_rows.proofs.found_in.Goals as goal

pub returns : goal.returns
returns c = search (rules, found_made)
