-- `queue_listing::lines` meets its contract. The loop keeps `SheetsAdded`: the text has the lines of the first i records, and those that are left complete it.
-- A turn adds the line of record i, of at most 121 bytes.
-- It ends: the records that are left fall by one.
use mathlib.Core.Path.{◌≡◌}
use lib.ListN.{length, take}
use Rattle.queue_listing.proofs.Adding.{SheetsAdded}
use Rattle.queue_listing.proofs.lines.Given as goal

abbrev pub invariant-loop-i : goal.invariant-loop-i
invariant-loop-i l = SheetsAdded (take l.served.count l.served.records) l.longer l.i × (length (take l.served.count l.served.records) ≡ l.served.count)
