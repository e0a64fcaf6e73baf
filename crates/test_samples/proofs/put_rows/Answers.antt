-- `test_samples::put_rows` meets its contract.
use mathlib.Core.Path.{refl}
use borrow.Author.Rules.{rules}
use native.Mathlib.Nat.{sub-zero}
use Rattle.test_buffers.proofs.Putting.{putting_start}
use Rattle.test_samples.proofs.Drawing.{rows_more, rows_end, states_more, states_end}
use Rattle.test_samples.proofs.put_rows.Goals as goal

pub loop-i-init : goal.loop-i-init
loop-i-init c = rw sub-zero (putting_start, refl)

pub loop-i-preserved : goal.loop-i-preserved
loop-i-preserved c =
    let l = c.loop-i in
    let x = c.args in
    let put = rw (c.draw-kind.ensures.value, c.draw-kind.ensures.seed_after) at c.put_next_row-next.ensures.puts in
    let after = rw (c.draw-kind.ensures.value, c.draw-kind.ensures.seed_after) at c.put_next_row-next.ensures.seed_after in
    rw after (rows_more x.boats l.i x.columns x.scale l.seed l.invariant.0 (search rules) put, states_more x.boats l.i x.columns l.seed l.invariant.1 (search rules))

pub returns : goal.returns
returns c =
    let l = c.loop-i in
    let x = c.args in
    record { puts = rows_end x.boats l.i x.columns x.scale l.seed l.invariant.0 (search rules); seed_after = states_end x.boats l.i x.columns l.seed l.invariant.1 (search rules) }
