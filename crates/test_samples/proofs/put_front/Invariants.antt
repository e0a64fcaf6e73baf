-- `test_samples::put_front` meets its contract.
use mathlib.Core.Path.{◌≡◌}
use Prim.Native.Nat.{◌-◌}
use Rattle.test_buffers.proofs.Putting.{Putting}
use Rattle.test_samples.specs.Draws.{advances, any_bytes}
use Rattle.test_samples.proofs.put_front.Given as goal

abbrev pub invariant-loop-i : goal.invariant-loop-i
invariant-loop-i l = Putting l.initial.buffer l.at (any_bytes l.count l.initial.seed) l.buffer l.next (any_bytes (l.count - l.i) l.seed) × (advances (l.count - l.i) l.seed ≡ advances l.count l.initial.seed)
