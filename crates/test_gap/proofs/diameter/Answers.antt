-- `test_gap::diameter` meets its contract.
use native.Mathlib.Omega.{arith}
use Rattle.test_gap.proofs.Rows.{boats_are, diameter_start, diameter_more, diameter_end}
use Rattle.test_gap.proofs.diameter.Goals as goal

pub loop-i-init : goal.loop-i-init
loop-i-init c =
    let n = boats_are _ _ c.requires.layout_value in
    (omega (arith, n), diameter_start _ _ c.requires.sheet_value n)

pub farthest-requires : goal.farthest-requires
farthest-requires c = record { sheet_value = c.requires.sheet_value; layout_value = c.requires.layout_value; i_bound = omega (arith, c.loop-i.invariant.0, c.loop-i-test.true) }

pub loop-i-preserved : goal.loop-i-preserved
loop-i-preserved c =
    let l = c.loop-i in
    let t = c.loop-i-test.true in
    (omega (arith, l.invariant.0), diameter_more _ _ c.requires.sheet_value l.i (omega (arith, t)) l.invariant.0 c.farthest.ensures l.invariant.1 c.greater-most.ensures)

pub returns : goal.returns
returns c = diameter_end _ _ c.requires.sheet_value c.loop-i.i (omega (arith, c.loop-i-test.false)) c.loop-i.invariant.1
