-- `csv_column_match::put_positions` meets its contract. The loop keeps `PositionsPut`: the positions of the first j columns are put, later bytes are as they were.
-- A turn looks column j up among the sheet's and puts its position.
-- It ends: the columns that are left fall by one.
use borrow.Author.Rules.{rules}
use native.Mathlib.Omega.{arith}
use Rattle.csv_slots.proofs.Holding.{zeros_room, zeros_empty}
use Rattle.csv_column_match.proofs.Looking.{position_held}
use Rattle.csv_column_match.proofs.Positions.{positions_start, positions_more, positions_end}
use Rattle.csv_column_match.proofs.put_positions.Goals as goal

pub put_rows-requires : goal.put_rows-requires
put_rows-requires c = record { csv_len_bound = search rules; room = zeros_room 1 65 13000 (omega arith) (omega arith) (omega arith); empty = zeros_empty 65 }

pub put_rows-requires-2 : goal.put_rows-requires-2
put_rows-requires-2 c = record { csv_len_bound = search rules; room = zeros_room 1 65 13000 (omega arith) (omega arith) (omega arith); empty = zeros_empty 65 }

pub loop-j-init : goal.loop-j-init
loop-j-init c = positions_start _ _ _ _ _

pub same_column-requires : goal.same_column-requires
same_column-requires c = record { room = search rules; room_2 = search rules; j_bound = search rules; n_bound = search rules }

pub bounds-output-j : goal.bounds-output-j
bounds-output-j c = omega (arith, c.loop-j.invariant.so_far.long, c.requires.m_in_bounds)

pub loop-j-preserved : goal.loop-j-preserved
loop-j-preserved c = positions_more _ _ _ c.loop-j.invariant c.requires.m_in_bounds c.loop-j-test.true (position_held c.put_rows.ensures c.put_rows-2.ensures _ _ c.same_column.ensures.by_index)

pub shape_of-output : goal.shape_of-output
shape_of-output c = c.loop-j.invariant.so_far.long

pub returns : goal.returns
returns c = positions_end _ _ _ c.loop-j.invariant (search rules) c.loop-j-test.false
