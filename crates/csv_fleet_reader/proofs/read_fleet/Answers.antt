-- `csv_fleet_reader::read_fleet` meets its contract. The loop keeps `Reading`: table, line and values, followed through the bytes that are left, end as the definitions say, and the first n values are put.
-- A turn reads one byte to a token, puts the value that the token ends, if any, and moves table and line by it.
-- It ends: the bytes that are left fall by one.
use native.Mathlib.Omega.{arith}
use Rattle.csv_fleet_reader.proofs.Reading.{reading_start, reading_more, reading_end}
use Rattle.csv_fleet_reader.proofs.read_fleet.Goals as goal

pub loop-i-init : goal.loop-i-init
loop-i-init c = reading_start c.separator-separator.ensures c.start-table.ensures c.mark_size-i.ensures

pub put_value-n-requires : goal.put_value-n-requires
put_value-n-requires c = omega (arith, c.loop-i.invariant.so_far.long, c.requires.in_bounds)

pub after-table-requires : goal.after-table-requires
after-table-requires c = omega (arith, c.loop-i.invariant.few_boats, c.loop-i.invariant.within, c.requires.csv_len_bound)

pub next_number-line-requires : goal.next_number-line-requires
next_number-line-requires c = omega (arith, c.loop-i.invariant.few_lines, c.loop-i.invariant.within, c.requires.csv_len_bound)

pub loop-i-preserved : goal.loop-i-preserved
loop-i-preserved c = reading_more c.loop-i.invariant c.requires.in_bounds c.loop-i-test.true c.read_byte-step.ensures c.put_value-n.ensures.value c.put_value-n.ensures.rows_after c.after-table.ensures c.next_number-line.ensures.value c.next_number-line.ensures.upper_bound

pub put_value-n-requires-2 : goal.put_value-n-requires-2
put_value-n-requires-2 c = omega (arith, c.loop-i.invariant.so_far.long, c.requires.in_bounds)

pub after-requires : goal.after-requires
after-requires c = omega (arith, c.loop-i.invariant.few_boats, c.loop-i.invariant.within, c.requires.csv_len_bound)

pub shape_of-rows : goal.shape_of-rows
shape_of-rows c = omega (arith, c.put_value-n-2.auto, c.loop-i.invariant.so_far.long)

pub returns : goal.returns
returns c =
    let q = reading_end c.loop-i.invariant c.requires.in_bounds c.loop-i-test.false c.ending-last.ensures c.put_value-n-2.ensures.value c.put_value-n-2.ensures.rows_after c.after.ensures in
    record { table_value = q.0; line_value = q.1.0; values_value = q.1.1.0; rows_after = q.1.1.1 }
