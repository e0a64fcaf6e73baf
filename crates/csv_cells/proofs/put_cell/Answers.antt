-- `csv_cells::put_cell` meets its contract. The loop keeps `Celling`: the n bytes that are put, with those that the bytes from i on still give, are the field's text.
-- A turn reads one byte to a token and puts the token where it is in the field; past the field nothing more comes.
-- It ends: the bytes that are left fall by one.
use native.Mathlib.Omega.{arith}
use mathlib.Core.Path.{ap, refl}
use Rattle.csv_fields.proofs.Fielding.{put_counted, put_placed}
use Rattle.csv_cells.specs.Cells.{Place}
use Rattle.csv_cells.proofs.Places.{within_fits}
use Rattle.csv_cells.proofs.Celling.{celling_start, celling_more, celling_past, celling_end}
use Rattle.csv_cells.proofs.put_cell.Goals as goal

pub loop-i-init : goal.loop-i-init
loop-i-init c = celling_start c.separator-separator.ensures c.start-place.ensures c.mark_size-i.ensures

pub shape_of-output-then-is_past : goal.shape_of-output-then-is_past
shape_of-output-then-is_past c = c.loop-i.invariant.so_far.long

pub returns-then-is_past : goal.returns-then-is_past
returns-then-is_past c =
    let q = celling_past c.loop-i.invariant c.requires.in_bounds c.is_past.ensures c.if-is_past.true in
    record { value = q.0; upper_bound = q.1.0; output_after = q.1.1 }

pub moved-next-requires : goal.moved-next-requires
moved-next-requires c =
    let q = within_fits c.loop-i.invariant.near c.requires.csv_len_bound in
    record { line_bound = q.0; row_bound = q.1 }

pub byte_in-byte-requires : goal.byte_in-byte-requires
byte_in-byte-requires c = ap (λ (p : Place). p.fault) c.moved-next.ensures

pub put_byte-n-requires : goal.put_byte-n-requires
put_byte-n-requires c = omega (arith, c.loop-i.invariant.so_far.long, c.requires.in_bounds)

pub loop-i-preserved : goal.loop-i-preserved
loop-i-preserved c =
    let e = c.byte_in-byte.ensures in
    celling_more c.loop-i.invariant c.requires.in_bounds c.loop-i-test.true c.read_byte-step.ensures c.moved-next.ensures refl (put_counted _ _ _ _ e c.put_byte-n.ensures.value)
    (put_placed _ _ _ _ e _ c.put_byte-n.ensures.output_after)

pub shape_of-output : goal.shape_of-output
shape_of-output c = c.loop-i.invariant.so_far.long

pub returns : goal.returns
returns c =
    let q = celling_end c.loop-i.invariant c.requires.in_bounds c.loop-i-test.false in
    record { value = q.0; upper_bound = q.1.0; output_after = q.1.1 }
