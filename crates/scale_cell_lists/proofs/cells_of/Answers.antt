-- `scale_cell_lists::cells_of` meets its contract: `Stored` is the loop's invariant.
use borrow.Author.Rules.{rules}
use Prim.Native.Nat.{◌-◌}
use Rattle.integers.proofs.Filling.{filled_start}
use Rattle.scale_cell_lists.proofs.Lists.{stored_more, stored_end}
use Rattle.scale_cell_lists.proofs.cells_of.Goals as goal

pub loop-i-init : goal.loop-i-init
loop-i-init c = (search rules, filled_start)

pub loop-i-preserved : goal.loop-i-preserved
loop-i-preserved c = (search rules, stored_more _ _ _ _ c.loop-i.invariant.1 c.loop-i-test.true c.cell_at-s.ensures)

pub returns : goal.returns
returns c = stored_end _ _ _ _ c.loop-i.invariant.1 c.loop-i-test.false
