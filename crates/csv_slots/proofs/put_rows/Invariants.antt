-- `csv_slots::put_rows` meets its contract. The loop keeps `Holding`: with the bytes that are still to come, each slot has its field.
-- A turn puts one token into the slot of its field.
-- It ends: the bytes that are left fall by one.
use Rattle.csv_slots.proofs.Holding.{Holding}
use Rattle.csv_cells.specs.Cells.{numbered}
use Rattle.csv_slots.proofs.put_rows.Given as goal

abbrev pub invariant-loop-i : goal.invariant-loop-i
invariant-loop-i l = Holding l.first l.rows l.csv l.separator (numbered l.place) l.mode l.i l.sizes l.cells
