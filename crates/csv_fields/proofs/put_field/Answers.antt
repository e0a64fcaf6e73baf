-- `csv_fields::put_field` meets its contract. The loop keeps `Fielding`: the n bytes that are put, with those that the bytes from i on still give, are the field's text.
-- A turn reads one byte to a token and puts the token where it is in the field.
-- It ends: the bytes that are left fall by one.
use native.Mathlib.Omega.{arith}
use mathlib.Core.Path.{ap, refl}
use Rattle.csv_fleet_tokens.specs.Table.{Table}
use Rattle.csv_fields.proofs.Fielding.{fielding_start, fielding_more, fielding_end, put_counted, put_placed}
use Rattle.csv_fields.proofs.put_field.Goals as goal

pub loop-i-init : goal.loop-i-init
loop-i-init c = fielding_start _ _ _ _ c.separator-separator.ensures c.start-table.ensures c.mark_size-i.ensures

pub after-next-requires : goal.after-next-requires
after-next-requires c = omega (arith, c.loop-i.invariant.few_boats, c.loop-i.invariant.within, c.requires.csv_len_bound)

pub byte_at-byte-requires : goal.byte_at-byte-requires
byte_at-byte-requires c = ap (λ (t : Table). t.fault) c.after-next.ensures

pub put_byte-n-requires : goal.put_byte-n-requires
put_byte-n-requires c = omega (arith, c.loop-i.invariant.so_far.long, c.requires.in_bounds)

pub next_number-at-requires : goal.next_number-at-requires
next_number-at-requires c = omega (arith, c.loop-i.invariant.few_lines, c.loop-i.invariant.within, c.requires.csv_len_bound)

pub loop-i-preserved : goal.loop-i-preserved
loop-i-preserved c =
    let e = c.byte_at-byte.ensures in
    fielding_more c.loop-i.invariant c.requires.in_bounds c.loop-i-test.true c.read_byte-step.ensures c.after-next.ensures refl (put_counted _ _ _ _ e c.put_byte-n.ensures.value)
    (put_placed _ _ _ _ e _ c.put_byte-n.ensures.output_after) c.next_number-at.ensures.value c.next_number-at.ensures.upper_bound

pub shape_of-output : goal.shape_of-output
shape_of-output c = c.loop-i.invariant.so_far.long

pub returns : goal.returns
returns c =
    let q = fielding_end c.loop-i.invariant c.requires.in_bounds c.loop-i-test.false in
    record { value = q.0; output_after = q.1 }
