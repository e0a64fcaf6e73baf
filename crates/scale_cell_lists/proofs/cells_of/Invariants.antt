-- `scale_cell_lists::cells_of` meets its contract: `Stored` is the loop's invariant.
use borrow.Author.Rules.{rules}
use Prim.Native.Nat.{◌-◌, ◌≤◌}
use Rattle.scale_cell_lists.proofs.Lists.{Stored}
use Rattle.scale_cell_lists.proofs.cells_of.Given as goal

abbrev pub invariant-loop-i : goal.invariant-loop-i
invariant-loop-i l = (l.i ≤ 64) × Stored l.kinds l.first l.second l.units l.i l.cells
