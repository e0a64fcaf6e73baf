-- `test_buffers::u16_at` meets its contract.
use Prim.Native.Nat.{◌+◌}
use native.Mathlib.Omega.{arith}
use lib.ListN.{get_or-eq_default}
use Rattle.files.proofs.Numbers.{number_2}
use Rattle.test_buffers.proofs.u16_at.Goals as goal

pub returns-then-at-buffer : goal.returns-then-at-buffer
returns-then-at-buffer c = rw number_2 (omega arith)

pub returns : goal.returns
returns c =
    let l = c.args.buffer.now in
    let i = c.args.at in
    rw (number_2, get_or-eq_default l 0 {n = i} c.if-at-buffer.false, get_or-eq_default l 0 {n = i + 1} (omega (arith, c.if-at-buffer.false))) (omega arith)
