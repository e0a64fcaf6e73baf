-- `test_gap::diameter` meets its contract.
use mathlib.Core.Path.{◌≡◌}
use Prim.Native.Nat.{◌≤◌}
use lib.ListN.{drop}
use Rattle.files.specs.Book.{boats, columns, rows}
use Rattle.frank_wolfe.specs.Vectors.{ones}
use Rattle.method.specs.Iterates.{row_diameter}
use Rattle.test_gap.proofs.diameter.Given as goal

abbrev pub invariant-loop-i : goal.invariant-loop-i
invariant-loop-i l = (l.i ≤ boats l.book) × (l.most ≡ row_diameter (ones (columns l.book)) (drop l.i (rows l.book)))
