-- `test_samples::put_row` meets its contract.
use mathlib.Core.Path.{refl}
use borrow.Author.Rules.{rules}
use native.Mathlib.Nat.{sub-zero}
use Rattle.test_buffers.proofs.Putting.{putting_start}
use Rattle.test_samples.proofs.Drawing.{row_more, row_end, advances_more, advances_end}
use Rattle.test_samples.proofs.put_row.Goals as goal

pub loop-i-init : goal.loop-i-init
loop-i-init c = rw sub-zero (putting_start, refl)

pub loop-i-preserved : goal.loop-i-preserved
loop-i-preserved c =
    let x = c.args in
    rw
    c.draw-x.ensures.seed_after
    (row_more x.columns c.loop-i.i x.scale c.loop-i.seed c.loop-i.invariant.0 (search rules) (rw c.draw-x.ensures.value at c.put_number-next.ensures), advances_more x.columns c.loop-i.i c.loop-i.seed c.loop-i.invariant.1 (search rules))

pub returns : goal.returns
returns c =
    let l = c.loop-i in
    let x = c.args in
    record { puts = row_end x.columns l.i x.scale l.seed l.invariant.0 (search rules); seed_after = advances_end x.columns l.i l.seed l.invariant.1 (search rules) }
