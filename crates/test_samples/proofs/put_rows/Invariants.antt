-- `test_samples::put_rows` meets its contract.
use mathlib.Core.Path.{◌≡◌}
use Prim.Native.Nat.{◌-◌}
use Rattle.test_buffers.proofs.Putting.{Putting}
use Rattle.test_samples.specs.Rows.{rows, after_rows}
use Rattle.test_samples.proofs.put_rows.Given as goal

abbrev pub invariant-loop-i : goal.invariant-loop-i
invariant-loop-i l = Putting l.initial.buffer l.at (rows l.boats 0 l.columns l.scale l.initial.buffer l.at l.initial.seed) l.buffer l.next (rows (l.boats - l.i) l.i l.columns l.scale l.buffer l.next l.seed)
    × (after_rows (l.boats - l.i) l.i l.columns l.seed ≡ after_rows l.boats 0 l.columns l.initial.seed)
