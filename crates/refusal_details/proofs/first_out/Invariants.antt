-- `refusal_details::first_out` meets its contract: `Scanned` is the loop's invariant.
use Rattle.refusal_details.proofs.Scan.{Scanned}
use Rattle.refusal_details.proofs.first_out.Given as goal

abbrev pub invariant-loop-i : goal.invariant-loop-i
invariant-loop-i l = Scanned l.b l.at l.count l.i
