-- `derived_files::copy_row` meets its contract. The loop keeps `Copying`: the cells of the first k places are written, and those of the places that are left complete the row.
-- A turn writes the two bytes of the cell at place k.
use native.Mathlib.Omega.{arith}
use lib.ListN.{length-set}
use Rattle.derived_files.proofs.Columns.{copy_start, copy_more, copy_end}
use Rattle.derived_files.proofs.copy_row.Goals as goal

pub loop-k-init : goal.loop-k-init
loop-k-init c = copy_start

pub overflow_mul-cell : goal.overflow_mul-cell
overflow_mul-cell c = omega (arith, c.requires.inside c.loop-k.k c.loop-k-test.true, c.index.ensures)

pub overflow_add-cell : goal.overflow_add-cell
overflow_add-cell c = omega (arith, c.requires.inside c.loop-k.k c.loop-k-test.true, c.index.ensures)

pub bounds-bytes-cell : goal.bounds-bytes-cell
bounds-bytes-cell c = omega (arith, c.requires.inside c.loop-k.k c.loop-k-test.true, c.index.ensures)

pub overflow_add-high : goal.overflow_add-high
overflow_add-high c = omega (arith, c.requires.inside c.loop-k.k c.loop-k-test.true, c.index.ensures)

pub bounds-bytes-cell-in-loop-k : goal.bounds-bytes-cell-in-loop-k
bounds-bytes-cell-in-loop-k c = omega (arith, c.requires.inside c.loop-k.k c.loop-k-test.true, c.index.ensures)

pub bounds-output-at-in-loop-k : goal.bounds-output-at-in-loop-k
bounds-output-at-in-loop-k c = simp length-set (omega (arith, c.loop-k-test.true, c.requires.places_in_bounds, c.loop-k.invariant.written.long))

pub loop-k-preserved : goal.loop-k-preserved
loop-k-preserved c = copy_more c.loop-k.invariant c.loop-k-test.true c.requires.places_in_bounds c.index.ensures

pub returns : goal.returns
returns c = copy_end c.loop-k.invariant c.loop-k-test.false
