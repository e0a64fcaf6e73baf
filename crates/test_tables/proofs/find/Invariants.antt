-- `test_tables::find` meets its contract.
use mathlib.Core.Path.{◌≡◌}
use Prim.Native.Nat.{◌+◌}
use lib.ListN.{drop}
use Rattle.test_tables.specs.Tables.{before}
use Rattle.test_tables.proofs.find.Given as goal

abbrev pub invariant-loop-i : goal.invariant-loop-i
invariant-loop-i l = (l.at + before l.mark (drop l.at l.text) ≡ l.i + before l.mark (drop l.i l.text))
