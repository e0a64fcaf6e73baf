-- `merge_books::is_among` meets its contract. The loop keeps `Looking`: none of the first i rows is the row looked for, so the rows that are left decide.
-- A turn compares one row: equal ends the loop, unequal leaves the answer to the rows behind it.
-- It ends: the rows that are left, count - i, fall by one.
use native.Mathlib.Omega.{arith}
use mathlib.Core.Path.{refl, ◌∙◌}
use Rattle.merge_books.proofs.Looking.{looking_start, looking_inside, looking_found, looking_more, looking_end, row_compared}
use Rattle.merge_books.proofs.is_among.Goals as goal

pub loop-i-init : goal.loop-i-init
loop-i-init c = looking_start

pub slice_bounds-is_same-end : goal.slice_bounds-is_same-end
slice_bounds-is_same-end c = omega (arith, looking_inside c.loop-i.invariant c.loop-i-test.true, c.requires.columns_in_bounds)

pub returns-then-is_same : goal.returns-then-is_same
returns-then-is_same c =
    let h = c.loop-i-test.true in
    let inside = looking_inside c.loop-i.invariant h in
    let same = row_compared c.args.rows.now c.args.row.now c.args.columns c.loop-i.at c.shared_slice_known-1.given c.shared_slice_known-2-1.given c.requires.row_len (omega (arith, c.requires.columns_in_bounds)) refl c.is_same.ensures in
    looking_found c.loop-i.invariant h (same ∙ c.if-is_same.true)

pub loop-i-preserved : goal.loop-i-preserved
loop-i-preserved c =
    let h = c.loop-i-test.true in
    let inside = looking_inside c.loop-i.invariant h in
    let same = row_compared c.args.rows.now c.args.row.now c.args.columns c.loop-i.at c.shared_slice_known-1.given c.shared_slice_known-2-1.given c.requires.row_len (omega (arith, c.requires.columns_in_bounds)) refl c.is_same.ensures in
    looking_more c.loop-i.invariant h (same ∙ c.if-is_same.false) refl

pub returns : goal.returns
returns c = looking_end c.loop-i.invariant c.loop-i-test.false
