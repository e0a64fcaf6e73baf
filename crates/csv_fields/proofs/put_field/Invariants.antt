-- `csv_fields::put_field` meets its contract. The loop keeps `Fielding`: the n bytes that are put, with those that the bytes from i on still give, are the field's text.
-- A turn reads one byte to a token and puts the token where it is in the field.
-- It ends: the bytes that are left fall by one.
use Rattle.csv_fields.proofs.Fielding.{Fielding}
use Rattle.csv_fleet_tokens.specs.Table.{numbered}
use Rattle.csv_fields.proofs.put_field.Given as goal

abbrev pub invariant-loop-i : goal.invariant-loop-i
invariant-loop-i l = Fielding l.line l.field l.csv l.initial.output l.separator (numbered l.table) l.mode l.at l.n l.i l.output
