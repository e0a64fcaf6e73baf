-- `queue_folder::read_sheets` meets its contract. The loop keeps `Going`: k sheets stand back to back in the first bytes of the buffer, and their lengths are in the list; the buffer has the length it came with.
-- A turn reads sheet k behind them and puts its length.
-- It ends: the sheets that are left fall by one.
use mathlib.Core.Path.{refl, ◌∙◌}
use Prim.Native.Nat.{◌-◌}
use native.Mathlib.Omega.{arith}
use Rattle.queue_folder.proofs.Reading.{going_start, going_more, going_end}
use borrow.Author.Rules.{rules}
use Rattle.queue_folder.proofs.read_sheets.Goals as goal

pub loop-k-init : goal.loop-k-init
loop-k-init c = (going_start c.requires.0 c.requires.1 refl, refl)

pub read_sheet-n-requires : goal.read_sheet-n-requires
read_sheet-n-requires c =
    let g = c.loop-k.invariant.0 in
    let below = c.loop-k-test.true in
    (omega (arith, g.few), omega (arith, g.few, g.short, g.room))

pub overflow_cast-lengths : goal.overflow_cast-lengths
overflow_cast-lengths c = record { fits = omega (arith, c.read_sheet-n.ensures.most) }

pub bounds-lengths-k : goal.bounds-lengths-k
bounds-lengths-k c =
    let g = c.loop-k.invariant.0 in
    let below = c.loop-k-test.true in
    omega (arith, g.few)

pub overflow_add-at : goal.overflow_add-at
overflow_add-at c =
    let g = c.loop-k.invariant.0 in
    let below = c.loop-k-test.true in
    record { fits = omega (arith, g.few, g.short, c.read_sheet-n.ensures.most) }

pub loop-k-preserved : goal.loop-k-preserved
loop-k-preserved c =
    let inv = c.loop-k.invariant in
    let below = c.loop-k-test.true in
    (going_more inv.0 below c.read_sheet-n.ensures, c.read_sheet-n.ensures.long ∙ inv.1)

pub shape_of-buffer : goal.shape_of-buffer
shape_of-buffer c = c.loop-k.invariant.1

pub returns : goal.returns
returns c = record { some_sheets = going_end c.loop-k.invariant.0 c.loop-k-test.false; buffer_len_unchanged = c.loop-k.invariant.1 }
