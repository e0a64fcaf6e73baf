-- `csv_sheet_rows::read` meets its contract: `Reading` is the loop's invariant.
use borrow.Author.Rules.{rules}
use Rattle.csv_sheet_rows.proofs.Reading.{reading_start, reading_more, reading_end}
use Rattle.csv_sheet_rows.proofs.read.Goals as goal

pub loop-byte-init : goal.loop-byte-init
loop-byte-init c = search (rules, reading_start)

pub loop-byte-preserved : goal.loop-byte-preserved
loop-byte-preserved c = search (rules, reading_more)

pub returns : goal.returns
returns c = search (rules, reading_end)
