-- `csv_sheet_parts::put_target` meets its contract. The loop keeps `ValuesPut`: the values of the first i columns are written, two bytes each.
-- A turn reads the cell of column i and writes its value.
-- It ends: the columns that are left fall by one.
use native.Mathlib.Omega.{arith}
use mathlib.Core.Path.{◌≡◌, ap, ◌∙◌}
use lib.ListN.{length, get_or}
use Rattle.csv_bytes.specs.Cells.{read}
use Rattle.csv_cells.specs.Cells.{cell_text}
use Rattle.csv_slots.proofs.Holding.{zeros_room, zeros_empty, slot_fits, slot_short, field_held}
use Rattle.csv_sheet_parts.proofs.Bounds.{value_small, place_few}
use Rattle.csv_sheet_parts.proofs.Putting.{values_start, values_room, values_more, values_end}
use Rattle.csv_sheet_parts.proofs.put_target.Goals as goal

pub row_for-row-requires : goal.row_for-row-requires
row_for-row-requires c = record { csv_len_bound = omega (arith, c.requires.ready.short); csv_value = c.requires.ready.faultless }

pub put_rows-requires : goal.put_rows-requires
put_rows-requires c = record { csv_len_bound = omega (arith, c.requires.ready.short); room = zeros_room 1 65 13000 (omega arith) (omega arith) (omega arith); empty = zeros_empty 65 }

pub loop-i-init : goal.loop-i-init
loop-i-init c = values_start

pub overflow_cast-places : goal.overflow_cast-places
overflow_cast-places c = omega (arith, c.shared_slice_known-in-loop-i-1.given c.loop-i.i)

pub cell-text-requires : goal.cell-text-requires
cell-text-requires c =
    let q = slot_fits c.put_rows.ensures.room _ (omega (arith, place_few c.requires.ready c.loop-i.i c.loop-i-test.true)) in
    record { number_in_bounds = q.0; number_in_bounds_2 = q.1 }

pub read-cell-requires : goal.read-cell-requires
read-cell-requires c =
    let i = c.loop-i.i in
    omega (
      arith,
      ap length c.cell-text.ensures,
      slot_short c.put_rows.ensures.room (get_or c.args.places.now i 0) (omega (arith, place_few c.requires.ready i c.loop-i-test.true)),
    )

pub overflow_mul-i : goal.overflow_mul-i
overflow_mul-i c = omega (arith, c.requires.ready.few)

pub value_bits-requires : goal.value_bits-requires
value_bits-requires c =
    let cell_is : (c.read-cell.result ≡ read (cell_text c.row_for-row.result (get_or c.args.places.now c.loop-i.i 0) c.args.csv.now)) = c.read-cell.ensures ∙ ap read (c.cell-text.ensures ∙ field_held c.put_rows.ensures _ (place_few c.requires.ready c.loop-i.i c.loop-i-test.true)) in
    rw (cell_is, c.row_for-row.ensures) (value_small c.requires.ready c.loop-i.i c.loop-i-test.true)

pub put-requires : goal.put-requires
put-requires c = values_room c.loop-i.invariant c.requires.places_in_bounds c.loop-i-test.true

pub loop-i-preserved : goal.loop-i-preserved
loop-i-preserved c =
    let cell_is : (c.read-cell.result ≡ read (cell_text c.row_for-row.result (get_or c.args.places.now c.loop-i.i 0) c.args.csv.now)) = c.read-cell.ensures ∙ ap read (c.cell-text.ensures ∙ field_held c.put_rows.ensures _ (place_few c.requires.ready c.loop-i.i c.loop-i-test.true)) in
    values_more c.loop-i.invariant c.requires.places_in_bounds c.loop-i-test.true cell_is c.value_bits.ensures c.put.ensures

pub shape_of-output : goal.shape_of-output
shape_of-output c = c.loop-i.invariant.so_far.long

pub returns : goal.returns
returns c = values_end c.loop-i.invariant c.requires.places_in_bounds c.loop-i-test.false c.row_for-row.ensures
