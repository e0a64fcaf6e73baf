-- `file_parts::values_in_range` meets its contract. The loop keeps `Scanned`: `good` is the test of the first i values, and it and the values that are left decide.
-- A turn tests one value more; it does not stop at the first that is out of range.
-- It ends: the values that are left fall by one.
use Rattle.file_parts.proofs.Range.{scanned_start, scanned_in, scanned_out, scanned_end}
use Rattle.file_parts.proofs.values_in_range.Goals as goal
use Rattle.file_parts.proofs.values_in_range.Goals.{then-not-value_in_range, else-not-value_in_range}

pub loop-i-init : goal.loop-i-init
loop-i-init c = scanned_start

pub loop-i-preserved : goal.loop-i-preserved
loop-i-preserved c =
    let s = c.loop-i.invariant in
    let h = c.loop-i-test.true in
    elim c.if-not-value_in_range.branch [
      | then-not-value_in_range w ↦ rw w.good-is (scanned_out s h c.u16_at.ensures.value c.value_in_range.ensures w.if-not-value_in_range.true)
      | else-not-value_in_range w ↦ rw w.good-is (scanned_in s h c.u16_at.ensures.value c.value_in_range.ensures w.if-not-value_in_range.false)
    ]

pub returns : goal.returns
returns c = scanned_end c.loop-i.invariant c.loop-i-test.false
