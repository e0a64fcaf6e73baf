-- `released_book::put_rows` meets its contract. The loop keeps `Rowing`: the rows of the boats before i that may be used are put, up to `at`, and row i is read at `from`.
-- A turn puts row i where the boat may be used.
-- It ends: the boats that are left fall by one.
use Prim.Native.Nat.{◌-◌}
use Rattle.method.specs.ReleasedBoats.{usable}
use Rattle.released_book.proofs.Rows.{Rowing}
use Rattle.released_book.proofs.put_rows.Given as goal

abbrev pub invariant-loop-i : goal.invariant-loop-i
invariant-loop-i l = Rowing (usable l.set) l.initial.output l.book l.from l.at l.i l.output
