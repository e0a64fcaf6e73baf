-- `test_gap::farthest` meets its contract.
use native.Mathlib.Omega.{arith}
use Rattle.iteration.proofs.States.{book_fits}
use Rattle.test_gap.proofs.Rows.{boats_are, farthest_start, farthest_more, farthest_end}
use Rattle.test_gap.proofs.farthest.Goals as goal

pub loop-j-init : goal.loop-j-init
loop-j-init c =
    let n = boats_are _ _ c.requires.layout_value in
    (omega (arith, n, c.requires.i_bound), (omega (arith, n), farthest_start _ _ c.requires.sheet_value _ n))

pub overflow_add-j-start : goal.overflow_add-j-start
overflow_add-j-start c = record { fits = omega (arith, c.requires.i_bound, (book_fits _ _ c.requires.sheet_value).most_boats) }

pub squared_distance-requires : goal.squared_distance-requires
squared_distance-requires c = record { sheet_value = c.requires.sheet_value; layout_value = c.requires.layout_value; i_bound = (c.requires.i_bound, omega (arith, c.loop-j.invariant.0, c.loop-j.invariant.1.0)) }

pub loop-j-preserved : goal.loop-j-preserved
loop-j-preserved c =
    let l = c.loop-j in
    let t = c.loop-j-test.true in
    (omega (arith, t), (omega (arith, l.invariant.1.0), farthest_more _ _ c.requires.sheet_value c.args.i l.j (omega (arith, t)) l.invariant.1.0 c.squared_distance.ensures l.invariant.1.1 c.greater-most.ensures))

pub returns : goal.returns
returns c =
    let l = c.loop-j in
    farthest_end _ _ c.requires.sheet_value c.args.i l.j (omega (arith, c.loop-j-test.false, l.invariant.0)) l.invariant.1.1
