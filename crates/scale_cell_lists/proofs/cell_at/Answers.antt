-- `scale_cell_lists::cell_at` meets its contract: a law of `Lists` for each return.
use borrow.Author.Rules.{rules}
use Rattle.scale_cell_lists.proofs.Lists.{no_kind, no_first, no_second, no_unit, present}
use Rattle.scale_cell_lists.proofs.cell_at.Goals as goal

pub returns-then-i-units : goal.returns-then-i-units
returns-then-i-units c = present _ _ _ _ _ c.if-i-kinds.true c.if-i-first.true c.if-i-second.true c.if-i-units.true c.cell_of-cell.ensures

pub returns-else-i-units : goal.returns-else-i-units
returns-else-i-units c = no_unit _ _ _ _ _ c.if-i-units.false

pub returns-else-i-second : goal.returns-else-i-second
returns-else-i-second c = no_second _ _ _ _ _ c.if-i-second.false

pub returns-else-i-first : goal.returns-else-i-first
returns-else-i-first c = no_first _ _ _ _ _ c.if-i-first.false

pub returns-else-i-kinds : goal.returns-else-i-kinds
returns-else-i-kinds c = no_kind _ _ _ _ _ c.if-i-kinds.false
