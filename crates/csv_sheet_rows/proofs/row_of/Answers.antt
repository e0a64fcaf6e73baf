-- `csv_sheet_rows::row_of` meets its contract. The loop keeps `Seeking`: none of the rows after this one is of the kind.
-- A turn looks at one row, by its slots.
use borrow.Author.Rules.{rules}
use native.Mathlib.Omega.{arith}
use Rattle.csv_slots.proofs.Holding.{zeros_room, zeros_empty}
use Rattle.csv_sheet_rows.proofs.KindNumbers.{same_number, other_number}
use Rattle.csv_sheet_rows.proofs.RowKinds.{seeking_start, seeking_here, seeking_more, seeking_end}
use Rattle.csv_sheet_rows.proofs.row_of.Goals as goal

pub put_rows-requires : goal.put_rows-requires
put_rows-requires c = record { csv_len_bound = search rules; room = zeros_room 16 1040 208000 (omega arith) (omega arith) (omega arith); empty = zeros_empty 1040 }

pub loop-row-init : goal.loop-row-init
loop-row-init c = (omega arith, seeking_start)

pub kind_in-requires : goal.kind_in-requires
kind_in-requires c = record { room = c.put_rows.ensures.room; row_bound = omega (arith, c.loop-row.invariant.0, c.requires.n_bound) }

pub returns-then-eq : goal.returns-then-eq
returns-then-eq c = seeking_here c.loop-row.invariant.1 (λ e. omega (arith, e, c.loop-row-test.true)) (c.kind_in.ensures _ c.put_rows.ensures) c.place.ensures (same_number _ _ c.eq.ensures c.if-eq.true)

pub loop-row-preserved : goal.loop-row-preserved
loop-row-preserved c = (
  omega (arith, c.loop-row.invariant.0),
  seeking_more c.loop-row.invariant.1 (λ e. omega (arith, e, c.loop-row-test.true)) (c.kind_in.ensures _ c.put_rows.ensures) c.place.ensures (other_number _ _ c.eq.ensures c.if-eq.false),
)

pub returns : goal.returns
returns c = seeking_end c.loop-row.invariant.1 (omega (arith, c.loop-row-test.false))
