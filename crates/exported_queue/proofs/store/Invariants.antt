-- `exported_queue::store` meets its contract. The loop keeps the queue with its first i records replaced. A turn writes one record.
use Prim.Native.Nat.{◌≤◌}
use mathlib.Core.Path.{◌≡◌}
use Rattle.std.specs.Prelude.{Ok}
use Rattle.queue_rounds.specs.Outcomes.{outcome}
use Rattle.exported_queue.specs.Lists.{stored}
use Rattle.exported_queue.proofs.store.Given as goal

abbrev pub invariant-loop-i : goal.invariant-loop-i
invariant-loop-i l = (l.i ≤ l.count) × (l.queue ≡ stored l.initial.queue (outcome (Ok l.served)) l.i)
