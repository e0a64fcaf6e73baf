-- `mixture_answer::residual_of` meets its contract. The loop keeps `Summing`: r is the sum over the boats before i of share times (row less target), no larger than the shares so far allow.
-- A turn adds boat i by `moved`.
-- It ends: the boats that are left fall by one.
use borrow.Author.Rules.{rules}
use mathlib.Core.Path.{◌≡◌}
use Prim.Native.Nat.{◌-◌}
use native.Mathlib.Omega.{arith}
use lib.ListN.{length}
use Rattle.mixture_answer.proofs.Residuals.{summing_start, boat_slot, residual_done, row_fits, row_cells_fit, row_cell_fits, boat_moved, boat_added}
use Rattle.mixture_answer.proofs.residual_of.Goals as goal

pub loop-i-init : goal.loop-i-init
loop-i-init c = summing_start _ _ c.requires.sheet_value

pub overflow_mul-row : goal.overflow_mul-row
overflow_mul-row c = let n : length c.args.shares ≡ 256 = search rules in row_cell_fits _ _ c.requires.sheet_value c.requires.layout_value c.loop-i.invariant n c.loop-i-test.true (search rules)

pub overflow_mul-row-in-loop-i : goal.overflow_mul-row-in-loop-i
overflow_mul-row-in-loop-i c = let n : length c.args.shares ≡ 256 = search rules in row_cells_fit _ _ c.requires.sheet_value c.requires.layout_value c.loop-i.invariant n c.loop-i-test.true (search rules)

pub overflow_add-row : goal.overflow_add-row
overflow_add-row c = let n : length c.args.shares ≡ 256 = search rules in row_fits _ _ c.requires.sheet_value c.requires.layout_value c.loop-i.invariant n c.loop-i-test.true (search rules)

pub offset_bounds-shares-i : goal.offset_bounds-shares-i
offset_bounds-shares-i c = let n : length c.args.shares ≡ 256 = search rules in omega (arith, boat_slot _ _ c.requires.sheet_value c.requires.layout_value c.loop-i.invariant n c.loop-i-test.true)

pub bounds-shares-i : goal.bounds-shares-i
bounds-shares-i c = let n : length c.args.shares ≡ 256 = search rules in boat_slot _ _ c.requires.sheet_value c.requires.layout_value c.loop-i.invariant n c.loop-i-test.true

pub moved-next-requires : goal.moved-next-requires
moved-next-requires c =
    let q = let n : length c.args.shares ≡ 256 = search rules in boat_moved _ _ c.requires.sheet_value c.requires.layout_value c.loop-i.invariant n c.loop-i-test.true c.wide-share.ensures.value c.requires.shares_bound in
    record { span = q.0; span_2 = q.1.0; movable = q.1.1 }

pub loop-i-preserved : goal.loop-i-preserved
loop-i-preserved c = let n : length c.args.shares ≡ 256 = search rules in boat_added _ _ c.requires.sheet_value c.requires.layout_value c.loop-i.invariant n c.loop-i-test.true c.wide-share.ensures.value (search rules) c.moved-next.ensures

pub returns : goal.returns
returns c = let n : length c.args.shares ≡ 256 = search rules in residual_done _ _ c.requires.sheet_value c.requires.layout_value c.loop-i.invariant n c.loop-i-test.false
