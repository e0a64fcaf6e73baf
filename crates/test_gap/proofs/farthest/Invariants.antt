-- `test_gap::farthest` meets its contract.
use mathlib.Core.Path.{◌≡◌}
use Prim.Native.Nat.{◌≤◌, ◌<◌}
use lib.ListN.{drop}
use Rattle.files.specs.Book.{boats, columns, rows}
use Rattle.frank_wolfe.specs.Vectors.{ones}
use Rattle.method.specs.Iterates.{row, farthest}
use Rattle.test_gap.proofs.farthest.Given as goal

abbrev pub invariant-loop-j : goal.invariant-loop-j
invariant-loop-j l = (l.i < l.j) × ((l.j ≤ boats l.book) × (l.most ≡ farthest (ones (columns l.book)) (row (rows l.book) l.i) (drop l.j (rows l.book))))
