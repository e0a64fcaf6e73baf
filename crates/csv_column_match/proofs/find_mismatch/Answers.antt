-- `csv_column_match::find_mismatch` meets its contract: the names of both CSVs are in slots.
use borrow.Author.Rules.{rules}
use native.Mathlib.Omega.{arith}
use Rattle.csv_slots.proofs.Holding.{zeros_room, zeros_empty}
use Rattle.csv_column_match.proofs.find_mismatch.Goals as goal

pub put_rows-requires : goal.put_rows-requires
put_rows-requires c = record { csv_len_bound = search rules; room = zeros_room 1 65 13000 (omega arith) (omega arith) (omega arith); empty = zeros_empty 65 }

pub put_rows-requires-2 : goal.put_rows-requires-2
put_rows-requires-2 c = record { csv_len_bound = search rules; room = zeros_room 1 65 13000 (omega arith) (omega arith) (omega arith); empty = zeros_empty 65 }

pub mismatch_in-requires : goal.mismatch_in-requires
mismatch_in-requires c = record { room = search rules; room_2 = search rules; m_bound = search rules; n_bound = search rules }

pub returns : goal.returns
returns c = c.mismatch_in.ensures _ _ c.put_rows.ensures c.put_rows-2.ensures
