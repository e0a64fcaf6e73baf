-- `test_samples::put_row` meets its contract.
use mathlib.Core.Path.{◌≡◌}
use Prim.Native.Nat.{◌-◌}
use Rattle.test_buffers.proofs.Putting.{Putting}
use Rattle.test_samples.specs.Draws.{advances}
use Rattle.test_samples.specs.Rows.{row}
use Rattle.test_samples.proofs.put_row.Given as goal

abbrev pub invariant-loop-i : goal.invariant-loop-i
invariant-loop-i l = Putting l.initial.buffer l.at (row l.columns l.scale l.initial.seed) l.buffer l.next (row (l.columns - l.i) l.scale l.seed) × (advances (l.columns - l.i) l.seed ≡ advances l.columns l.initial.seed)
