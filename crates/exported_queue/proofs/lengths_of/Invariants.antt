-- `exported_queue::lengths_of` meets its contract. The loop keeps the lengths of the first i records. A turn reads one record.
use Prim.Native.Nat.{◌≤◌}
use mathlib.Core.Path.{◌≡◌}
use lib.ListN.{length}
use Rattle.exported_queue.specs.Lists.{lengths_to}
use Rattle.exported_queue.proofs.lengths_of.Given as goal

abbrev pub invariant-loop-i : goal.invariant-loop-i
invariant-loop-i l = (l.i ≤ length l.queue) × (l.lengths ≡ lengths_to l.queue l.i)
