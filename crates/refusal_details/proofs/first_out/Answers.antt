-- `refusal_details::first_out` meets its contract: `Scanned` is the loop's invariant.
use borrow.Author.Rules.{rules}
use Rattle.refusal_details.proofs.Scan.{scanned_start, scanned_in, scanned_out, scanned_end}
use Rattle.refusal_details.proofs.first_out.Goals as goal

pub loop-i-init : goal.loop-i-init
loop-i-init c = scanned_start

pub returns-then-u16_at-gt4000 : goal.returns-then-u16_at-gt4000
returns-then-u16_at-gt4000 c = search (rules, scanned_out)

pub loop-i-preserved : goal.loop-i-preserved
loop-i-preserved c = search (rules, scanned_in)

pub returns : goal.returns
returns c = search (rules, scanned_end)
