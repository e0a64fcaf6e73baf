-- `csv_cells::scan` meets its contract. The loop keeps `Scanning`: place, line and width, followed through the bytes that are left, end as the definitions say.
-- A turn reads one byte to a token and moves place, line and width by it.
-- It ends: the bytes that are left fall by one.
use borrow.Author.Rules.{rules}
use mathlib.Core.Path.{ap}
use Rattle.csv_cells.specs.Cells.{Place}
use Rattle.csv_cells.proofs.Places.{within_fits}
use Rattle.csv_cells.proofs.Scans.{scanning_start, scanning_more, scanning_end}
use Rattle.csv_cells.proofs.scan.Goals as goal

pub loop-i-init : goal.loop-i-init
loop-i-init c = search (rules, scanning_start)

pub moved-next-requires : goal.moved-next-requires
moved-next-requires c = search (rules, within_fits)

pub width_at-n-requires : goal.width_at-n-requires
width_at-n-requires c = record { fault_value = ap (λ (p : Place). p.fault) c.moved-next.ensures; field_bound = c.loop-i.invariant.widening.narrow }

pub loop-i-preserved : goal.loop-i-preserved
loop-i-preserved c =
    scanning_more c.loop-i.invariant c.loop-i-test.true c.read_byte-step.ensures c.moved-next.ensures c.line_at-line.ensures c.width_at-n.ensures

pub moved-requires : goal.moved-requires
moved-requires c = search (rules, within_fits)

pub returns : goal.returns
returns c =
    let q = scanning_end c.loop-i.invariant c.loop-i-test.false c.ending.ensures c.moved.ensures c.line_at.ensures in
    record { place_value = q.0; line_value = q.1.0; width_value = q.1.1.0; width_bound = q.1.1.1 }
