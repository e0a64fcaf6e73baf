-- `card_details::entries_line` meets its contract. The loop keeps `Entered`: the first i entries have no fault, so the entries that are left give the line.
-- A turn tests one entry: a fault ends the loop with its line, else the entries behind it give it.
-- It ends: the entries that are left fall by one.
use Rattle.card_details.proofs.Lines.{Entered}
use Rattle.card_details.proofs.entries_line.Given as goal

abbrev pub invariant-loop-i : goal.invariant-loop-i
invariant-loop-i l = Entered l.name l.card l.start l.count l.boats l.i l.next l.at
