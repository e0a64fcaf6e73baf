-- `queue_rounds::total_of` meets its contract.
use Prim.Native.Nat.{◌≤◌}
use Rattle.queue_rounds.proofs.Sheets.{Totalled}
use Rattle.queue_rounds.proofs.total_of.Given as goal

abbrev pub invariant-loop-i : goal.invariant-loop-i
invariant-loop-i l = (l.i ≤ l.count) × Totalled l.lengths l.i l.n
