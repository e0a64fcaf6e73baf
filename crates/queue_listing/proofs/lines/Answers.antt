-- `queue_listing::lines` meets its contract. The loop keeps `SheetsAdded`: the text has the lines of the first i records, and those that are left complete it.
-- A turn adds the line of record i, of at most 121 bytes.
-- It ends: the records that are left fall by one.
use mathlib.Core.Path.{◌≡◌, sym, ◌∙◌}
use native.Mathlib.Omega.{arith}
use lib.ListN.{length, take}
use lib.Seq.{length-take-le, get_or-take}
use Rattle.queue_listing.proofs.Adding.{sheets_start, sheets_more, sheets_end}
use Rattle.queue_listing.proofs.lines.Goals as goal

pub loop-i-init : goal.loop-i-init
loop-i-init c =
    let x = c.args.served in
    let e : length (take x.count x.records) ≡ x.count = length-take-le x.count x.records (omega (arith, c.requires.0, c.requires.1)) in
    (sheets_start (omega (arith, c.requires.0)) c.empty-longer.ensures, e)

pub record_at-requires : goal.record_at-requires
record_at-requires c =
    let inv = c.loop-i.invariant in
    omega (arith, inv.0.few, inv.1, c.loop-i-test.true)

pub with_sheet-longer-requires : goal.with_sheet-longer-requires
with_sheet-longer-requires c =
    let inv = c.loop-i.invariant in
    (omega (arith, inv.0.few, inv.1, c.loop-i-test.true), omega (arith, inv.0.few, inv.0.reached, inv.0.room))

pub loop-i-preserved : goal.loop-i-preserved
loop-i-preserved c =
    let inv = c.loop-i.invariant in
    let below = c.loop-i-test.true in
    (sheets_more inv.0 (omega (arith, inv.1)) (c.record_at.ensures ∙ sym (get_or-take _ _ _ _ below)) (c.with_sheet-longer.ensures.adds, c.with_sheet-longer.ensures.len_bound), inv.1)

pub returns : goal.returns
returns c =
    let inv = c.loop-i.invariant in
    sheets_end inv.0 (omega (arith, inv.1, c.loop-i-test.false))
