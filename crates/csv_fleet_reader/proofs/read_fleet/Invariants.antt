-- `csv_fleet_reader::read_fleet` meets its contract. The loop keeps `Reading`: table, line and values, followed through the bytes that are left, end as the definitions say, and the first n values are put.
-- A turn reads one byte to a token, puts the value that the token ends, if any, and moves table and line by it.
-- It ends: the bytes that are left fall by one.
use Rattle.csv_fleet_reader.proofs.Reading.{Reading}
use Rattle.csv_fleet_tokens.specs.Table.{numbered}
use Rattle.csv_fleet_reader.proofs.read_fleet.Given as goal

abbrev pub invariant-loop-i : goal.invariant-loop-i
invariant-loop-i l = Reading l.csv l.initial.rows l.separator (numbered l.table) l.mode l.line l.n l.i l.rows
