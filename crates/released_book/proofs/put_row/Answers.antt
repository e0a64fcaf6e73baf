-- `released_book::put_row` meets its contract.
use mathlib.Core.Path.{refl, sym}
use native.Mathlib.Omega.{arith}
use Rattle.buffers.proofs.Placing.{placed_nil}
use Rattle.released_book.proofs.put_row.Goals as goal

pub returns-then-not-used : goal.returns-then-not-used
returns-then-not-used c =
    let e = c.if-not-used.true in
    rw e (record { value = omega arith; output_after = sym (placed_nil _ _) })

pub returns : goal.returns
returns c =
    let e = c.if-not-used.false in
    rw e (record { value = refl; output_after = c.put_bytes.ensures })
