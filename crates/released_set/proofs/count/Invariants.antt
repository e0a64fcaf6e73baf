-- `released_set::count` meets its contract; `Inv-loop` is what its loop keeps.
use Prim.Native.Nat.{◌-◌, ◌≤◌}
use Rattle.method.specs.ReleasedBoats.{usable}
use Rattle.released_set.proofs.Ranks.{Counted}
use Rattle.released_set.proofs.count.Given as goal

abbrev pub invariant-loop-i : goal.invariant-loop-i
invariant-loop-i l = (l.i ≤ l.end) × Counted (usable l.set) l.first l.i l.n
