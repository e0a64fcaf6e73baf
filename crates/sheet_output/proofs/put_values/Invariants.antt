-- `sheet_output::put_values` meets its contract. The loop keeps `ValuesWritten`: the first i values are written, two bytes each.
-- A turn writes one value more.
-- It ends: the values that are left fall by one.
use borrow.Author.Rules.{rules}
use Prim.Native.Nat.{◌-◌}
use Rattle.sheet_output.proofs.Writing.{ValuesWritten}
use Rattle.sheet_output.proofs.put_values.Given as goal

abbrev pub invariant-loop-i : goal.invariant-loop-i
invariant-loop-i l = ValuesWritten l.initial.output l.count l.values l.i l.output
