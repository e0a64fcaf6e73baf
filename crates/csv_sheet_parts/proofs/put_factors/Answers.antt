-- `csv_sheet_parts::put_factors` meets its contract. The loop keeps `FactorsPut`: the factors of the first i columns are written, a byte each.
-- A turn reads the factor of column i and writes it.
-- It ends: the columns that are left fall by one.
use Prim.Native.Nat.{◌≤◌}
use native.Mathlib.Omega.{arith}
use Rattle.csv_slots.proofs.Holding.{zeros_room, zeros_empty}
use Rattle.csv_sheet_parts.proofs.Bounds.{factor_small, place_few}
use Rattle.csv_sheet_parts.proofs.Putting.{factors_start, factors_more, factors_end}
use Rattle.csv_sheet_parts.proofs.put_factors.Goals as goal

pub row_for-row-requires : goal.row_for-row-requires
row_for-row-requires c = record { csv_len_bound = omega (arith, c.requires.ready.short); csv_value = c.requires.ready.faultless }

pub put_rows-requires : goal.put_rows-requires
put_rows-requires c = record { csv_len_bound = omega (arith, c.requires.ready.short); room = zeros_room 1 65 13000 (omega arith) (omega arith) (omega arith); empty = zeros_empty 65 }

pub loop-i-init : goal.loop-i-init
loop-i-init c = factors_start

pub overflow_cast-places : goal.overflow_cast-places
overflow_cast-places c = omega (arith, c.shared_slice_known-in-loop-i-1.given c.loop-i.i)

pub factor_in-requires : goal.factor_in-requires
factor_in-requires c = record { room = c.put_rows.ensures.room; field_bound = place_few c.requires.ready c.loop-i.i c.loop-i-test.true }

pub overflow_cast-output : goal.overflow_cast-output
overflow_cast-output c =
    let small : c.factor_in.result ≤ 64 = rw (c.factor_in.ensures _ c.put_rows.ensures, c.row_for-row.ensures) (factor_small c.requires.ready c.loop-i.i c.loop-i-test.true) in
    omega (arith, small)

pub bounds-output-i : goal.bounds-output-i
bounds-output-i c = omega (arith, c.loop-i.invariant.so_far.long, c.requires.places_in_bounds)

pub loop-i-preserved : goal.loop-i-preserved
loop-i-preserved c = factors_more c.loop-i.invariant c.requires.places_in_bounds c.loop-i-test.true (c.factor_in.ensures _ c.put_rows.ensures)

pub shape_of-output : goal.shape_of-output
shape_of-output c = c.loop-i.invariant.so_far.long

pub returns : goal.returns
returns c = factors_end c.loop-i.invariant c.requires.places_in_bounds c.loop-i-test.false c.row_for-row.ensures
